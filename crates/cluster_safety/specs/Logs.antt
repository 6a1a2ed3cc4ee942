-- The logs of the nodes of a running program, by the records of its steps.
use Rattle.std.specs.Prelude.{ℕ, List, [], ◌∷◌, ◌++◌, ◌==◌, drop, if◌then◌else◌}
use Rattle.fabric_terms.specs.declared.record.Record.{Record}
use Rattle.replica_core.specs.declared.entry.Entry.{Entry}
use Rattle.run_promises.specs.Snapshots.{Snapshots}
use Rattle.turn_rules.specs.Steps.{Step}
use Rattle.unit_rules.specs.Starts.{replica_of, replicas_after_all}
use Rattle.cluster_safety.specs.Moments.{moments_of}

-- Of steps, the newest first.

-- what the steps of an actor recorded, the oldest first
abbrev pub recorded_by : ℕ → List Step → List Record
recorded_by actor [] = []
recorded_by actor (s ∷ ss) = if s.who.actor == actor then recorded_by actor ss ++ s.records else recorded_by actor ss

-- the log of a partition that these records give
abbrev pub recorded_log : List Record → (partition : ℕ) → List Entry
recorded_log records partition = (replica_of partition (replicas_after_all [] records)).log

-- what was reported up to so many steps ago, and each node's log of each partition then, where nothing was kept before the
-- first step
abbrev pub past_of : List Step → Snapshots
past_of steps ago = record { run = moments_of (drop ago steps); log = λ node partition. recorded_log (recorded_by node (drop ago steps)) partition }
