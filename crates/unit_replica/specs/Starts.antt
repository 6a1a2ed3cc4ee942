-- The replicas of a node at a start, and as the next start finds them.
use Rattle.std.specs.Prelude.{Bool, ◌==◌, ◌&&◌, List, None, length, map, filter, not}
use Rattle.std.specs.Map.{values_of}
use Rattle.fabric_lemmas.specs.Maps.{put}
use Rattle.ring_points.specs.Epochs.{same_epoch}
use Rattle.replica_core.specs.Replicas.{Replica, begun_again, first_epoch, uncollected}
use Rattle.unit_rules.specs.ReplicaStates.{ReplicaState, first_state, replica_put}
use Rattle.unit_replica.specs.Tables.{ReplicaStates}

-- the state of a replica that has no role
abbrev pub bare_state : Replica → ReplicaState
bare_state r = replica_put (first_state r.partition) r

-- the states of these replicas
abbrev pub states_of : List Replica → ReplicaStates
states_of replicas = map (λ r. (r.partition, bare_state r)) replicas

-- a start ends every collection

abbrev pub state_uncollected : ReplicaState → ReplicaState
state_uncollected s = replica_put s (uncollected s.replica)

abbrev pub states_uncollected : ReplicaStates → ReplicaStates
states_uncollected states = map (λ e. (e.0, state_uncollected e.1)) states

-- the states with which a node begins that has these replicas
abbrev pub states_from : List Replica → ReplicaStates
states_from replicas = map (λ r. (r.partition, bare_state (uncollected r))) replicas

-- with the state of one more replica
abbrev pub with_replica : Replica → ReplicaStates → ReplicaStates
with_replica r states = put r.partition (bare_state r) states

-- the replicas of these states
abbrev pub replicas_in : ReplicaStates → List Replica
replicas_in states = map (λ s. s.replica) (values_of states)

-- whether the records of a node say anything of a replica
abbrev pub is_recorded : Replica → Bool
is_recorded r = not (same_epoch r.promised first_epoch && length r.log == 0)

-- the replica as the next instance begins with it
abbrev pub state_again : ReplicaState → ReplicaState
state_again s = record { replica = begun_again s.replica; catch_up = None; progress = None }

-- the replicas as the next instance begins with them
abbrev pub states_again : ReplicaStates → ReplicaStates
states_again states = filter (λ e. is_recorded e.1.replica) (map (λ e. (e.0, state_again e.1)) states)
