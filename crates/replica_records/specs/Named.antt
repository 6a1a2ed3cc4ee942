-- The replicas that a node's records name, as a list.
use Rattle.std.specs.Prelude.{◌≡◌, ℕ, Bool, true, not, ◌&&◌, List, [], map, filter, IsTrue}
use Rattle.fabric_lemmas.specs.Maps.{rises}
use Rattle.fabric_terms.specs.Messages.{is_sound}
use Rattle.fabric_terms.specs.declared.record.Record.{Record}
use Rattle.ring_points.specs.Epochs.{same_epoch}
use Rattle.replica_core.specs.Calls.{is_empty}
use Rattle.replica_core.specs.Replicas.{Replica, first_epoch, uncollected}
use Rattle.ring_rules.specs.declared.input.Input.{Input}
use Rattle.ring_rules.specs.declared.input.Input.TheVariants as input
use Rattle.unit_rules.specs.ReplicaStates.{ReplicaState, first_state, replica_put}
use Rattle.unit_rules.specs.Starts.{Replicas, replicas_after_all}
use Rattle.unit_rules.specs.Steps.{Failover}
use Rattle.replica_records.specs.ReplicaStates.{state_at}
use Rattle.replica_records.specs.Kept.{without_role, AreKept, IsFit}

-- a replica that records name: it has promised an epoch, or has an entry
abbrev pub is_named : Replica → Bool
is_named r = not (same_epoch r.promised first_epoch && is_empty r.log)

-- the replicas that are named, by partition, without their roles
abbrev pub named : List (ℕ × ReplicaState) → Replicas
named states = filter (λ e. is_named e.1) (map (λ e. (e.0, without_role e.1.replica)) states)

-- what a start makes of these replicas
abbrev pub states_of : Replicas → List (ℕ × ReplicaState)
states_of rs = map (λ e. (e.0, replica_put (first_state e.0) (uncollected e.1))) rs

-- what is recorded is what stands, exactly; a replica that no record names is as new, but for its role
pub record KeptAs (records : List Record) (s : Failover) : Type 0 where
  pub fit : (p : ℕ) → IsFit p (state_at p s)
  pub rise : rises s.states ≡ true
  pub stands : AreKept records s
  pub replicas : replicas_after_all [] records ≡ named s.states

-- a frame that comes is in the ranges of frames
abbrev pub FitsFrame : Input → Type 0
FitsFrame (input.Frame m) = IsTrue (is_sound m)
FitsFrame _ = Unit {0}
