-- A replica at its node.
use Rattle.std.specs.Prelude.{ℕ, ◌-◌, List, length, Option, None, nat_le, slice_get, if◌then◌else◌}
use Rattle.replica_core.specs.declared.entry.Entry.{Entry}
use Rattle.replica_core.specs.Replicas.{Replica, first_replica}
use Rattle.unit_rules.specs.declared.progress.PeerProgress.{PeerProgress}
use Rattle.unit_rules.specs.declared.progress.CatchUp.{CatchUp}

-- what a primary knows: of each other member, rising, the last entry that it had at its activation, and the last committed
-- one
pub record ReplicationProgress : Type 0 where
  pub peers : List PeerProgress
  pub begun : ℕ
  pub committed : ℕ

-- the replica, the Sync that it took last, and what it knows as a primary
pub record ReplicaState : Type 0 where
  pub replica : Replica
  pub catch_up : Option CatchUp
  pub progress : Option ReplicationProgress

abbrev pub first_state : ℕ → ReplicaState
first_state partition = record { replica = first_replica partition; catch_up = None; progress = None }

-- the state with this replica
abbrev pub replica_put : ReplicaState → Replica → ReplicaState
replica_put s r = record s { replica = r }

-- the number of the last entry, 0 where there is none
abbrev pub last_of : Replica → ℕ
last_of r = length r.log

-- the entry of this number, which counts from 1
abbrev pub entry_at : ℕ → List Entry → Option Entry
entry_at lsn log = if nat_le 1 lsn then slice_get log (lsn - 1) else None
