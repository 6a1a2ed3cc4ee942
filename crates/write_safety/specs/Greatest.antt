-- Reports of commits, and the first of the greatest of them.
use Rattle.std.specs.Prelude.{ℕ, List, [], ◌∷◌, Option, Some, None, nat_lt, take, if◌then◌else◌}
use Rattle.std.specs.List.{list_any}
use Rattle.replica_core.specs.declared.entry.Entry.{Entry}

-- a report Committed: the number of the last entry that is committed, and the log of its node there
pub record Commit : Type 0 where
  pub last : ℕ
  pub log : List Entry

-- the entries that it says are committed
abbrev pub entries_in : Commit → List Entry
entries_in k = take k.last k.log

-- the first of those of the greatest number: the first one that has no greater one behind it
abbrev pub first_greatest : List Commit → Option Commit
first_greatest [] = None
first_greatest (k ∷ ks) = if list_any (λ m. nat_lt k.last m.last) ks then first_greatest ks else Some k

abbrev pub entries_committed : Option Commit → List Entry
entries_committed None = []
entries_committed (Some k) = entries_in k

-- what the first report of the greatest number says is committed, and nothing where there is none
abbrev pub longest : List Commit → List Entry
longest ks = entries_committed (first_greatest ks)
