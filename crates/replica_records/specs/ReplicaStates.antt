-- The replica of a partition at a node, and what it is after its node began anew.
use Rattle.std.specs.Prelude.{ℕ, [], None, unwrap_or}
use Rattle.fabric_lemmas.specs.Maps.{at}
use Rattle.replica_core.specs.declared.role.Role.TheVariants.{None as NoRole}
use Rattle.unit_rules.specs.ReplicaStates.{ReplicaState, first_state}
use Rattle.unit_rules.specs.Steps.{Failover}

-- the replica of the partition, which begins with the first row that needs it
abbrev pub state_at : ℕ → Failover → ReplicaState
state_at p s = unwrap_or (at p s.states) (first_state p)

-- what a replica is after its node began anew: it has no role, and has collected nothing
abbrev pub begun_again : ReplicaState → ReplicaState
begun_again s = record { replica = record s.replica { role = NoRole; collected = [] }; catch_up = None; progress = None }
