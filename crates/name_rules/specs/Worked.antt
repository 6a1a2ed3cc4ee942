-- Examples that are computed.
use Rattle.std.specs.Prelude.{◌≡◌, [], ◌∷◌, List, ℕ, Some, None, codes}
use Rattle.std.specs.FinMap.{get}
use Rattle.replica_core.specs.declared.entry.Entry.{Entry}
use Rattle.name_rules.specs.Grammar.{Sets, Deletes, change_of}
use Rattle.name_rules.specs.Names.{name_list, names_of, point_of}

abbrev pub PointOfA : Type 0
PointOfA = point_of (codes "a") ≡ 12638187200555641996

-- the empty text, which is no name
abbrev pub PointOfNothing : Type 0
PointOfNothing = point_of [] ≡ 14695981039346656037

-- a value goes on to the end of the entry, blanks and all
pub record FiveChanges : Type 0 where
  pub set : change_of (codes "set a 7") ≡ Some (Sets (codes "a") (codes "7"))
  pub blanks : change_of (codes "set a  7 8 ") ≡ Some (Sets (codes "a") (codes " 7 8 "))
  pub named_set : change_of (codes "set set set") ≡ Some (Sets (codes "set") (codes "set"))
  pub deleted : change_of (codes "del a") ≡ Some (Deletes (codes "a"))
  pub sign : change_of (codes "del set!") ≡ Some (Deletes (codes "set!"))

-- no value, no name, a comma, a blank behind a deleted name, other words
pub record NoChanges : Type 0 where
  pub no_value : change_of (codes "set a") ≡ None
  pub empty_value : change_of (codes "set a ") ≡ None
  pub no_name : change_of (codes "set  7") ≡ None
  pub comma : change_of (codes "set a,b 7") ≡ None
  pub more : change_of (codes "del a b") ≡ None
  pub nothing : change_of (codes "del ") ≡ None
  pub other : change_of (codes "hello") ≡ None

abbrev entry : List ℕ → Entry
entry bytes = record { epoch = record { data_loss = 0; configuration = 1 }; lsn = 1; bytes = bytes }

-- a name that was set and deleted stands for nothing, and set again for its last value
pub record ADeletedName : Type 0 where
  pub gone : get (names_of (entry (codes "set a 7") ∷ entry (codes "del a") ∷ [])) (codes "a") ≡ None
  pub again : get (names_of (entry (codes "set a 7") ∷ entry (codes "del a") ∷ entry (codes "set a 8") ∷ [])) (codes "a") ≡ Some (codes "8")
  pub prefix : get (names_of (entry (codes "set ab 7") ∷ [])) (codes "a") ≡ None

-- the point of a is af63dc4c8601ec8c, and that of b is af63df4c8601f1a5
abbrev pub ListedInTheirOrder : Type 0
ListedInTheirOrder =
    name_list (names_of (entry (codes "set b 1") ∷ entry (codes "set a 2") ∷ entry (codes "set zz 3") ∷ [])) (record { lo = 12638187200555641996; hi = 12638190499090526629 })
    ≡ codes "a" ∷ codes "b" ∷ []
