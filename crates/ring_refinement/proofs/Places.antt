-- The places of a table: which one a test finds, and what each holds after a change.
use Rattle.std.proofs.Common.{◌≡◌, ℕ, zero, suc, ◌+◌, ◌<◌, Bool, true, false, cond, [], ◌∷◌, length, Option, Some, None, refl, sym, subst, ⊎_elim, arith}
use Rattle.std.specs.Prelude.{slice_set, is_some}
use Rattle.std.specs.List.{position_from, list_all}
use Rattle.std.proofs.lemmas.Bool.{cases_eq, and_parts}
use Rattle.std.proofs.lemmas.List.{get_or-set_same, get_or-set_other}
use Rattle.ring_rules.specs.declared.link.Link.{Link}
use Rattle.ring_rules.specs.Rings.{Slots}
use Rattle.ring_rules.specs.Slots.{slot_at, slot_where}

-- a used place is within the table
pub used_within : (slots : Slots) (i : ℕ) (l : Link) → slot_at i slots ≡ Some l → i < length slots
used_within [] i l e = absurd (cc (e))
used_within (o ∷ os) zero l e = omega arith
used_within (o ∷ os) (suc i) l e = let h = used_within os i l e in omega arith

-- the place that a test finds, from the index k on
record Found (t : Option Link → Bool) (k : ℕ) (slots : Slots) (i : ℕ) : Type 0 where
  ahead : ℕ
  index : i ≡ k + ahead
  within : ahead < length slots
  passes : t (slot_at ahead slots) ≡ true

found_from : (t : Option Link → Bool) (k : ℕ) (slots : Slots) (i : ℕ) → position_from t k slots ≡ Some i → Found t k slots i
found_from t k [] i e = absurd (cc (e))
found_from t k (o ∷ os) i e = one (t o) refl (found_from t (k + 1) os i) e
  where
    one : (b : Bool) → t o ≡ b → (position_from t (k + 1) os ≡ Some i → Found t (k + 1) os i) → cond b (Some k) (position_from t (k + 1) os) ≡ Some i →
        Found t k (o ∷ os) i
    one true h rest e = let same : k ≡ i = cc (e) in record { ahead = 0; index = omega arith; within = omega arith; passes = h }
    one false h rest e =
        let f = rest e in
        record { ahead = suc f.ahead; index = (let same = f.index in omega arith); within = (let lt = f.within in omega arith); passes = f.passes }

none_from : (t : Option Link → Bool) (k : ℕ) (slots : Slots) → position_from t k slots ≡ None → (i : ℕ) → i < length slots → t (slot_at i slots) ≡ false
none_from t k [] e i lt = absurd (omega arith)
none_from t k (o ∷ os) e i lt = one (t o) refl (none_from t (k + 1) os) e i lt
  where
    one : (b : Bool) → t o ≡ b → (position_from t (k + 1) os ≡ None → (i : ℕ) → i < length os → t (slot_at i os) ≡ false) →
        cond b (Some k) (position_from t (k + 1) os) ≡ None → (i : ℕ) → i < length (o ∷ os) → t (slot_at i (o ∷ os)) ≡ false
    one true h rest e i lt = absurd (cc (e))
    one false h rest e zero lt = h
    one false h rest e (suc i) lt = rest e i (omega arith)

-- the place that is found is within the table and passes
pub record At (t : Option Link → Bool) (slots : Slots) (i : ℕ) : Type 0 where
  pub within : i < length slots
  pub passes : t (slot_at i slots) ≡ true

pub found_at : (t : Option Link → Bool) (slots : Slots) (i : ℕ) → slot_where t slots ≡ Some i → At t slots i
found_at t slots i e =
    let f = found_from t 0 slots i e in
    let same : f.ahead ≡ i = (let h = f.index in omega arith) in
    subst (At t slots) same (record { within = f.within; passes = f.passes })

-- where none is found, none passes
pub none_at : (t : Option Link → Bool) (slots : Slots) → slot_where t slots ≡ None → (i : ℕ) (l : Link) → slot_at i slots ≡ Some l → t (Some l) ≡ false
none_at t slots e i l at = subst (λ (o : Option Link). t o ≡ false) at (none_from t 0 slots e i (used_within slots i l at))

-- a test that all pass, each passes
pub all_at : (t : Option Link → Bool) (slots : Slots) (i : ℕ) (l : Link) → list_all t slots ≡ true → slot_at i slots ≡ Some l → t (Some l) ≡ true
all_at t [] i l h e = absurd (cc (e))
all_at t (o ∷ os) zero l h e = subst (λ (z : Option Link). t z ≡ true) e (and_parts (t o) (list_all t os) h).0
all_at t (o ∷ os) (suc i) l h e = all_at t os i l (and_parts (t o) (list_all t os) h).1 e

-- what a place holds after a change of place i
pub set_cases : (P : ℕ → Option Link → Type 0) (slots : Slots) (i : ℕ) (o : Option Link) (j : ℕ) → i < length slots → P i o →
    ((i ≡ j → ⊥) → P j (slot_at j slots)) → P j (slot_at j (slice_set slots i o))
set_cases P slots i o j lt here there = ⊎_elim
    (λ (h : i ≡ j). subst (λ j. P j (slot_at j (slice_set slots i o))) h (subst (P i) (sym (get_or-set_same slots i o None lt)) here))
    (λ (h : i ≡ j → ⊥). subst (P j) (sym (get_or-set_other slots i j o None (λ e. h (sym e)))) (there h))
    (cases_eq i j)

pub set_same : (slots : Slots) (i : ℕ) (o : Option Link) → i < length slots → slot_at i (slice_set slots i o) ≡ o
set_same slots i o lt = get_or-set_same slots i o None lt

pub set_other : (slots : Slots) (i : ℕ) (o : Option Link) (j : ℕ) → (i ≡ j → ⊥) → slot_at j (slice_set slots i o) ≡ slot_at j slots
set_other slots i o j n = get_or-set_other slots i j o None (λ e. n (sym e))

pub none_is : {A : Type 0} (o : Option A) → is_some o ≡ false → o ≡ None
none_is None h = refl
none_is (Some a) h = absurd (cc (h))
