-- What a node recorded of its replicas, beside what stands.
use Rattle.std.specs.Prelude.{◌≡◌, ℕ, ◌≤◌, false, List, [], Some}
use Rattle.fabric_terms.specs.declared.record.Record.{Record}
use Rattle.ring_points.specs.Limits.{most_log_entries}
use Rattle.ring_points.specs.Epochs.{is_older}
use Rattle.replica_core.specs.declared.role.Role.TheVariants.{None as NoRole}
use Rattle.replica_core.specs.Replicas.{Replica}
use Rattle.unit_rules.specs.declared.progress.CatchUp.{CatchUp}
use Rattle.unit_rules.specs.ReplicaStates.{ReplicaState}
use Rattle.unit_rules.specs.Starts.{replica_of, replicas_after_all}
use Rattle.unit_rules.specs.Steps.{Failover}
use Rattle.replica_records.specs.ReplicaStates.{state_at}

-- what records say of a replica: all but its role
abbrev pub without_role : Replica → Replica
without_role r = record r { role = NoRole }

-- the replicas that the records give are those that stand
abbrev pub AreKept : List Record → Failover → Type 0
AreKept records s = (p : ℕ) → replica_of p (replicas_after_all [] records) ≡ without_role (state_at p s).replica

-- a replica of its partition, whose log is of no epoch above the promised one, and which takes no log that has no room
pub record IsFit (p : ℕ) (s : ReplicaState) : Type 0 where
  pub partition : s.replica.partition ≡ p
  pub at_promised : is_older s.replica.promised s.replica.at ≡ false
  pub room : (t : CatchUp) → s.catch_up ≡ Some t → t.last ≤ most_log_entries
