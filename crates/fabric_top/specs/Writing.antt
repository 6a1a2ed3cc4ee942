-- What `writes` does.
use Rattle.std.specs.Prelude.{◌≡◌, ℕ, List, [], IsTrue, Option, Some, None}
use Rattle.fabric_top.specs.CrewRuns.{Seen}
use Rattle.edge_io.specs.Edge.{HasRisen}
use Rattle.fabric_status.specs.declared.status.Status.{Status}
use Rattle.fabric_status.specs.declared.status.Status.TheVariants as status
use Rattle.schedule_replay.specs.Statuses.{may_end_replay}
use Rattle.schedule_rules.specs.Replays.{IsDone}
use Rattle.schedule_rules.specs.Schedule.{judge}
use Rattle.schedule_writes.specs.Writes.{Writes}

-- as `replay`, but with the committed logs in place of the report, and a fault stands alone
pub record WritesLogs (ended : Status) (left left' : Option (List ℕ)) (failed failed' : ℕ) (held held' : Option (List ℕ)) (refused refused' : ℕ) : Type 0 where
  pub read : ended ≡ status.Ok → (bytes : List ℕ) → left ≡ Some bytes → left' ≡ Some []
  pub written : (bytes : List ℕ) → left ≡ Some bytes → Writes ended (judge bytes) left' (HasRisen failed failed') held held'
  -- its status is one of these, whatever the devices tell
  pub statuses : IsTrue (may_end_replay ended)
  pub read_fault : ended ≡ status.ReadFault → HasRisen failed failed'
  pub write_fault : ended ≡ status.WriteFault → HasRisen refused refused'
  pub complete : (bytes : List ℕ) → left ≡ Some bytes → (judge bytes).refused ≡ None → ¬ HasRisen failed failed' → ¬ HasRisen refused refused' → IsDone ended

-- and no other device is used
pub record IsWrites (a : Seen) (ended : Status) (c : Seen) : Type 0 where
  pub writes : WritesLogs ended a.left c.left a.source_faults c.source_faults a.told.held c.told.held a.told.sink_faults c.told.sink_faults
  pub rest : c.told ≡ record a.told { held = c.told.held; sink_faults = c.told.sink_faults }
