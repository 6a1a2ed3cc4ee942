-- Where the first element that passes a test stands.
use Rattle.std.proofs.Common.{arith, ◌≡◌, ◌≤◌, Bool, true, false, List, [], ◌∷◌, length, refl, None, ltb, inl, inr, ◌<◌, is_some}
use Rattle.std.specs.List.{list_any, position, position_or_len}
use Rattle.std.proofs.lemmas.Bool.{cases_Bool, ltb-false, lt-ltb, false≢true}

none_before : {X : Type 0} (p : X → Bool) (xs : List X) → length xs ≤ position_or_len p xs → list_any p xs ≡ false
none_before p [] past = refl
none_before p (x ∷ xs) past = elim (cases_Bool (p x)) [
  | inl passes ↦ (let past-all = rw passes at past in absurd (omega arith))
  | inr fails ↦ (let past-rest = rw fails at past in rw fails (none_before p xs (omega arith)))
]

-- no element passes
pub position-None : {X : Type 0} (p : X → Bool) (xs : List X) → position p xs ≡ None → list_any p xs ≡ false
position-None p xs none = elim (cases_Bool (ltb (position_or_len p xs) (length xs))) [
  | inl found ↦ (let some = rw found at none in cc)
  | inr past ↦ none_before p xs (ltb-false _ _ past)
]

some_before : {X : Type 0} (p : X → Bool) (xs : List X) → list_any p xs ≡ true → position_or_len p xs < length xs
some_before p [] found = absurd (false≢true found)
some_before p (x ∷ xs) found = elim (cases_Bool (p x)) [
  | inl passes ↦ rw passes (omega arith)
  | inr fails ↦ (let later = rw fails at found in let there = some_before p xs later in rw fails (omega arith))
]

-- an element passes
pub position-is_some : {X : Type 0} (p : X → Bool) (xs : List X) → list_any p xs ≡ true → is_some (position p xs) ≡ true
position-is_some p xs found = rw (lt-ltb _ _ (some_before p xs found)) refl
