-- Lists of records, each with its actor.
use Rattle.std.specs.Prelude.{◌≡◌, ◌≢◌, ℕ, ◌==◌, if◌then◌else◌, List, [], ◌∷◌, ◌++◌}

abbrev pub Lists : Type 0
Lists = List (ℕ × List (List ℕ))

-- the records of the actor: those of its first list, or none
abbrev pub records_of : ℕ → Lists → List (List ℕ)
records_of actor [] = []
records_of actor (list ∷ rest) = if list.0 == actor then list.1 else records_of actor rest

-- the actor has this record more at the end, and the others have what they had
pub record AddsRecord (actor : ℕ) (bytes : List ℕ) (old new : Lists) : Type 0 where
  pub added : records_of actor new ≡ records_of actor old ++ bytes ∷ []
  pub others : (other : ℕ) → other ≢ actor → records_of other new ≡ records_of other old
