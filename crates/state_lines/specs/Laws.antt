-- What follows from the definitions alone.
use Rattle.std.specs.Prelude.{◌≡◌, ℕ, ◌&&◌, ◌==◌, Bool, true, List, Some, map, take, unwrap_or}
use Rattle.std.specs.List.{list_any}
use Rattle.fabric_lemmas.specs.Maps.{rises}
use Rattle.ring_points.specs.declared.unit.Epoch.{Epoch}
use Rattle.ring_points.specs.Epochs.{same_epoch}
use Rattle.unit_rules.specs.Reconfigs.{Reconfig, task_of}
use Rattle.unit_rules.specs.ReplicaStates.{ReplicaState, last_of}
use Rattle.door_lines.specs.Words.{Words, Replica}
use Rattle.state_lines.specs.Changes.{most_timed_changes, seen_after, since}
use Rattle.state_lines.specs.States.{replica_lines}
use Rattle.state_lines.specs.declared.change_times.SeenChange.{SeenChange}

-- this reconfiguration is under way
abbrev pub goes_on : ℕ → Epoch → List (ℕ × Reconfig) → Bool
goes_on partition epoch reconfigs = list_any (λ e. e.0 == partition && same_epoch (task_of e.1).epoch epoch) reconfigs

-- A reconfiguration that is under way in a turn keeps the reading at which it was first seen, or has that of the turn.
abbrev pub ChangesKeepTheirTime : Type 0
ChangesKeepTheirTime = (now partition : ℕ) (epoch : Epoch) (reconfigs : List (ℕ × Reconfig)) (seen : List SeenChange)
    → goes_on partition epoch (take most_timed_changes reconfigs) ≡ true
    → since partition epoch (seen_after now reconfigs seen) ≡ Some (unwrap_or (since partition epoch seen) now)

abbrev pub own_line : ℕ × ReplicaState → Words
own_line e = Replica e.0 e.1.replica.promised e.1.replica.role (last_of e.1.replica)

-- Each replica of a node has one line. Its partitions rise.
abbrev pub EachReplicaHasALine : Type 0
EachReplicaHasALine = (states : List (ℕ × ReplicaState)) → rises states ≡ true → replica_lines states ≡ map own_line states
