-- A book of committed entries, and what a commit makes of it.
use Rattle.std.specs.Prelude.{◌≡◌, ℕ, Bool, true, false, ◌&&◌, ◌||◌, ◌==◌, List, [], ◌∷◌, length, take, nat_lt, if◌then◌else◌}
use Rattle.std.specs.List.{list_all}
use Rattle.replica_core.specs.declared.entry.Entry.{Entry}

-- what is kept of a partition under one data loss number
pub record KeptLog : Type 0 where
  pub partition : ℕ
  pub data_loss : ℕ
  pub entries : List Entry

-- a partition and data loss number come before others: by partition, then by data loss number
abbrev pub precedes : ℕ → ℕ → ℕ → ℕ → Bool
precedes partition data_loss p d = nat_lt partition p || (partition == p && nat_lt data_loss d)

abbrev pub comes_before : ℕ → ℕ → KeptLog → Bool
comes_before partition data_loss l = precedes l.partition l.data_loss partition data_loss

abbrev pub is_of : ℕ → ℕ → KeptLog → Bool
is_of partition data_loss l = l.partition == partition && l.data_loss == data_loss

-- each comes before all later ones
abbrev pub logs_rise : List KeptLog → Bool
logs_rise [] = true
logs_rise (l ∷ ls) = list_all (λ m. precedes l.partition l.data_loss m.partition m.data_loss) ls && logs_rise ls

-- what is kept of a partition and data loss number, and nothing where none is of them
abbrev pub entries_of : ℕ → ℕ → List KeptLog → List Entry
entries_of partition data_loss [] = []
entries_of partition data_loss (l ∷ ls) = if is_of partition data_loss l then l.entries else entries_of partition data_loss ls

abbrev pub with_entries : List Entry → KeptLog → KeptLog
with_entries entries l = record l { entries = entries }

-- of two lists the longer one, the second where they are as long
abbrev pub longer : List Entry → List Entry → List Entry
longer new kept = if nat_lt (length kept) (length new) then new else kept

-- two lists are the same up to the end of the shorter one
abbrev pub Agree : List Entry → List Entry → Type 0
Agree a b = take (length b) a ≡ take (length a) b

-- Of this partition and data loss number the longer of what is committed and what was kept is kept, and of all others what
-- was kept.
pub record Commits (partition data_loss : ℕ) (committed : List Entry) (old new : List KeptLog) : Type 0 where
  pub here : entries_of partition data_loss new ≡ longer committed (entries_of partition data_loss old)
  pub others : (p d : ℕ) → (p == partition && d == data_loss) ≡ false → entries_of p d new ≡ entries_of p d old
