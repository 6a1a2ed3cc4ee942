-- The entries of a node's own replica.
use Rattle.std.specs.Prelude.{ℕ, ◌-◌, List, [], Option, Some, None, drop, map, take}
use Rattle.replica_core.specs.declared.entry.Entry.{Entry as LogEntry}
use Rattle.replica_core.specs.Replicas.{Replica}
use Rattle.unit_rules.specs.Fabric.{fabric}
use Rattle.unit_replica.specs.Tables.{replica_at}
use Rattle.world_rules.specs.Nodes.{NodeState}
use Rattle.door_lines.specs.Words.{Words, Entry}

abbrev pub entry_line : ℕ → LogEntry → Words
entry_line partition e = Entry partition e.epoch e.lsn e.bytes

-- the entries from this number on, at most so many; the first entry of a log has number 1
abbrev pub entries_from : ℕ → ℕ → List LogEntry → List LogEntry
entries_from first count log = take count (drop (first - 1) log)

-- of the replica, if there is one
abbrev pub entry_lines : ℕ → ℕ → ℕ → Option Replica → List Words
entry_lines partition first count None = []
entry_lines partition first count (Some r) = map (entry_line partition) (entries_from first count r.log)

unfoldable pub log_of : NodeState fabric → ℕ → ℕ → ℕ → List Words
log_of s partition first count = entry_lines partition first count (replica_at partition s.above.states)
