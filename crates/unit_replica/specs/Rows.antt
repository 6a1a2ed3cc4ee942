-- Parts of the rows at a primary, where it leads.
use Rattle.std.specs.Prelude.{ℕ, List, ◌++◌, map, Option, Some, None}
use Rattle.unit_rules.specs.Deeds.{Acted, after_deeds, still}
use Rattle.unit_rules.specs.ReplicaStates.{ReplicationProgress, ReplicaState, last_of}
use Rattle.unit_rules.specs.Writes.{accepted, append_to, committed}

-- the last entry is recorded and told, sent to each other member, and committed where the primary alone is a majority
abbrev pub spread : List ℕ → Option ReplicationProgress → ReplicaState → Acted ReplicaState
spread text None s = still s
spread text (Some l) s =
    after_deeds (accepted s.replica.partition s.replica.at (last_of s.replica) text ++ map (append_to s.replica.at s.replica (last_of s.replica) text) l.peers) (committed l s)
