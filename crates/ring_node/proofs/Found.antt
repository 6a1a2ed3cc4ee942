-- The slot that was found is there.
use Rattle.std.proofs.Common.{◌≡◌, ℕ, zero, suc, ◌+◌, Bool, true, false, [], ◌∷◌, Option, Some, refl, arith}
use Rattle.std.specs.List.{position_from}
use Rattle.ring_rules.specs.declared.link.Link.{Link}
use Rattle.ring_rules.specs.Rings.{Slots}
use Rattle.ring_rules.specs.Slots.{slot_at, slot_where}

abbrev IsThere : (Option Link → Bool) → ℕ → Slots → ℕ → Type 0
IsThere test k slots i = (j : ℕ) × (i ≡ k + j) × (test (slot_at j slots) ≡ true)

there_by : (test : Option Link → Bool) (k : ℕ) (x : Option Link) (slots : Slots) (i : ℕ) → (position_from test (k + 1) slots ≡ Some i → IsThere test (k + 1) slots i) → (b : Bool) → test x ≡ b → position_from test k (x ∷ slots) ≡ Some i → IsThere test k (x ∷ slots) i
there_by test k x slots i later true t e =
    let f : Some k ≡ Some i = rw t at e in
    let g : k ≡ i = cc in
    (zero, omega arith, t)
there_by test k x slots i later false t e =
    let f : position_from test (k + 1) slots ≡ Some i = rw t at e in
    let h = later f in
    (suc h.0, omega (arith, h.1), h.2)

there : (test : Option Link → Bool) (k : ℕ) (slots : Slots) (i : ℕ) → position_from test k slots ≡ Some i → IsThere test k slots i
there test k [] i e = absurd cc
there test k (x ∷ slots) i e = there_by test k x slots i (there test (k + 1) slots i) (test x) refl e

-- a test that a free slot does not pass is passed by a link, at the place that was found
pub found_there : (test : Option Link → Bool) (slots : Slots) (i : ℕ) → slot_where test slots ≡ Some i → test (slot_at i slots) ≡ true
found_there test slots i e = let h = there test 0 slots i e in let f : i ≡ h.0 = omega (arith, h.1) in rw f h.2
