-- The places of a table: what is in range at each, what a test finds, and for which place a part is frozen.
use Rattle.std.proofs.Common.{◌≡◌, ℕ, zero, suc, ◌+◌, ◌<◌, Bool, true, false, cond, [], ◌∷◌, length, Option, Some, None, IsTrue, refl, sym, subst, arith}
use Rattle.std.specs.Prelude.{◌==◌, All, slice_set}
use Rattle.std.specs.List.{list_all, position_from}
use Rattle.std.proofs.lemmas.Bool.{eqb-true, eqb-false}
use Rattle.std.proofs.lemmas.List.{get_or-set_same, get_or-set_other}
use Rattle.std.proofs.lemmas.List.Elements.{All-cons, All-head, All-nil, All-tail}
use Rattle.ring_rules.specs.declared.link.Link.{Link}
use Rattle.ring_rules.specs.declared.link.LinkState.{LinkState}
use Rattle.ring_rules.specs.declared.link.LinkState.TheVariants as state
use Rattle.ring_rules.specs.Rings.{Slots}
use Rattle.ring_rules.specs.Slots.{slot_at, slot_where, is_bound, is_free, is_hello, may_part}
use Rattle.token_core.specs.Tokens.{Freeze}
use Rattle.frames_fit.specs.InRange.{SlotInRange, holds_bound, is_frozen_for_bound}

-- What is in range at each place.

pub slot_in_range : (slots : Slots) (i : ℕ) → All SlotInRange slots → SlotInRange (slot_at i slots)
slot_in_range [] i h = tt
slot_in_range (o ∷ os) zero h = All-head SlotInRange o os h
slot_in_range (o ∷ os) (suc i) h = slot_in_range os i (All-tail SlotInRange o os h)

-- places that are all free
pub free_in_range : (slots : Slots) → IsTrue (list_all is_free slots) → All SlotInRange slots
free_in_range [] h = All-nil SlotInRange
free_in_range (None ∷ os) h = All-cons SlotInRange None os tt (free_in_range os h)
free_in_range (Some l ∷ os) h = absurd (cc (h))

-- What a test finds.

record Found (t : Option Link → Bool) (k : ℕ) (slots : Slots) (i : ℕ) : Type 0 where
  ahead : ℕ
  index : i ≡ k + ahead
  passes : t (slot_at ahead slots) ≡ true

found_from : (t : Option Link → Bool) (k : ℕ) (slots : Slots) (i : ℕ) → position_from t k slots ≡ Some i → Found t k slots i
found_from t k [] i e = absurd (cc (e))
found_from t k (o ∷ os) i e = one (t o) refl (found_from t (k + 1) os i) e
  where
    one : (b : Bool) → t o ≡ b → (position_from t (k + 1) os ≡ Some i → Found t (k + 1) os i) → cond b (Some k) (position_from t (k + 1) os) ≡ Some i →
        Found t k (o ∷ os) i
    one true h rest e = let same : k ≡ i = cc (e) in record { ahead = 0; index = omega arith; passes = h }
    one false h rest e = let f = rest e in record { ahead = suc f.ahead; index = (let same = f.index in omega arith); passes = f.passes }

-- the place that is found passes
pub found_passes : (t : Option Link → Bool) (slots : Slots) (i : ℕ) → slot_where t slots ≡ Some i → t (slot_at i slots) ≡ true
found_passes t slots i e =
    let f = found_from t 0 slots i e in
    let same : f.ahead ≡ i = (let h = f.index in omega arith) in
    subst (λ (j : ℕ). t (slot_at j slots) ≡ true) same f.passes

-- a used place is within the table, and holds what is put there
used_within : (slots : Slots) (i : ℕ) (l : Link) → slot_at i slots ≡ Some l → i < length slots
used_within [] i l e = absurd (cc (e))
used_within (o ∷ os) zero l e = omega arith
used_within (o ∷ os) (suc i) l e = let lt = used_within os i l e in omega arith

pub set_at : (slots : Slots) (i : ℕ) (l : Link) (o : Option Link) → slot_at i slots ≡ Some l → slot_at i (slice_set slots i o) ≡ o
set_at slots i l o e = get_or-set_same slots i o None (used_within slots i l e)

-- States.

pub free_unbound : (o : Option Link) → is_free o ≡ true → holds_bound o ≡ false
free_unbound None h = refl
free_unbound (Some l) h = absurd (cc (h))

pub hello_unbound : (s : LinkState) → is_hello s ≡ true → is_bound s ≡ false
hello_unbound state.Hello h = refl
hello_unbound s h = absurd (cc (h))

pub parting_met : (s : LinkState) → may_part s ≡ true → is_hello s ≡ false
parting_met state.Hello h = absurd (cc (h))
parting_met s h = refl

pub bound_met : (s : LinkState) → is_bound s ≡ true → is_hello s ≡ false
bound_met state.Hello h = absurd (cc (h))
bound_met s h = refl

-- For which place a part is frozen.

abbrev pub is_frozen_in : ℕ → Option Freeze → Bool
is_frozen_in i None = false
is_frozen_in i (Some z) = z.slot == i

bound_within : (slots : Slots) (i : ℕ) → holds_bound (slot_at i slots) ≡ true → i < length slots
bound_within [] i h = absurd (cc (h))
bound_within (o ∷ os) zero h = omega arith
bound_within (o ∷ os) (suc i) h = let lt = bound_within os i h in omega arith

-- it is for a link that is bound
pub frozen_bound : (slots : Slots) (i : ℕ) (f : Option Freeze) → IsTrue (is_frozen_for_bound f slots) → is_frozen_in i f ≡ true →
    holds_bound (slot_at i slots) ≡ true
frozen_bound slots i None h k = absurd (cc (k))
frozen_bound slots i (Some z) h k = subst (λ (j : ℕ). holds_bound (slot_at j slots) ≡ true) (eqb-true z.slot i k) h

-- and stays so where the place that changes is another, or holds a link that is bound
pub frozen_set : (slots : Slots) (i : ℕ) (o : Option Link) (f : Option Freeze) → IsTrue (is_frozen_for_bound f slots) →
    (is_frozen_in i f ≡ true → holds_bound o ≡ true) → IsTrue (is_frozen_for_bound f (slice_set slots i o))
frozen_set slots i o None h k = refl
frozen_set slots i o (Some z) h k = by_place (z.slot == i) refl
  where
    by_place : (b : Bool) → (z.slot == i) ≡ b → holds_bound (slot_at z.slot (slice_set slots i o)) ≡ true
    by_place true e =
        let same : i ≡ z.slot = sym (eqb-true z.slot i e) in
        let within : i < length slots = (let lt = bound_within slots z.slot h in omega arith) in
        subst (λ (j : ℕ). holds_bound (slot_at j (slice_set slots i o)) ≡ true) same
        (subst (λ (p : Option Link). holds_bound p ≡ true) (sym (get_or-set_same slots i o None within)) (k e))
    by_place false e =
        subst (λ (p : Option Link). holds_bound p ≡ true) (sym (get_or-set_other slots i z.slot o None (eqb-false z.slot i e))) h
