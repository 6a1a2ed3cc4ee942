-- What holds of records as bytes.
use Rattle.std.specs.Prelude.{◌≡◌, ℕ, Bool, List, ◌++◌, is_ok, IsTrue}
use Rattle.fabric_terms.specs.declared.record.Record.{Record}
use Rattle.keep_log.specs.Spellings.{is_sound, spelling}
use Rattle.keep_log.specs.Amounts.{nothing}
use Rattle.keep_log.specs.Places.{Follows, IsBadAfter, is_row, row_call}
use Rattle.replica_core.specs.Calls.{Outcome}
use Rattle.replica_core.specs.Replicas.{Replica}

-- a record has no spelling of another
abbrev pub OneSpelling : Type 0
OneSpelling = (r s : Record) → IsTrue (is_sound r) → IsTrue (is_sound s) → spelling r ≡ spelling s → r ≡ s

-- the records of a list are all good
pub record IsGood (lists : List (List ℕ)) : Type 0 where
  pub records : List Record
  pub follows : Follows nothing lists records

-- every front of a good list is a good list
abbrev pub FrontsAreGood : Type 0
FrontsAreGood = (front rest : List (List ℕ)) → IsGood (front ++ rest) → IsGood front

-- a list is one list of records, and a bad one is none
pub record IsDecided (lists : List (List ℕ)) : Type 0 where
  pub one : (a b : List Record) → Follows nothing lists a → Follows nothing lists b → a ≡ b
  pub bad : (n : ℕ) → IsBadAfter nothing lists n → IsGood lists → ⊥

abbrev pub AllDecided : Type 0
AllDecided = (lists : List (List ℕ)) → IsDecided lists

abbrev pub is_taken : {A : Type 0} → Outcome A → Bool
is_taken outcome = is_ok outcome.0

-- a record of a replica in its place is one that the replica's call takes
abbrev pub InPlaceIsTaken : Type 0
InPlaceIsTaken = (r : Record) (s : Replica) → IsTrue (is_sound r) → IsTrue (is_row r s) → IsTrue (is_taken (row_call r s))
