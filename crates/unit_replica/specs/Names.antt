-- The names that are kept along beside a list of entries.
use Rattle.std.specs.Prelude.{◌≡◌, ◌⊎◌, ℕ, ◌≤◌, List, [], ◌++◌, length, take}
use Rattle.replica_core.specs.declared.entry.Entry.{Entry}
use Rattle.name_rules.specs.Names.{NameMap, names_of}

-- the names are those of so many first entries
pub record AreOf (entries : List Entry) (count : ℕ) (names : NameMap) : Type 0 where
  pub within : count ≤ length entries
  pub same : names ≡ names_of (take count entries)

-- entries stay, with more behind them or without
pub record Longer (old new : List Entry) : Type 0 where
  pub more : List Entry
  pub is : new ≡ old ++ more

-- entries stay, or none is left
abbrev pub StayOrEnd : List Entry → List Entry → Type 0
StayOrEnd old new = Longer old new ⊎ (new ≡ [])
