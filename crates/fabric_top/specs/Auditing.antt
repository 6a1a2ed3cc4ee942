-- What `audit` does.
use Rattle.std.specs.Prelude.{◌≡◌, ℕ, List, [], IsTrue, Option, Some, Ok}
use Rattle.fabric_top.specs.CrewRuns.{Seen}
use Rattle.edge_io.specs.Edge.{HasRisen}
use Rattle.fabric_status.specs.declared.status.Status.{Status}
use Rattle.fabric_status.specs.declared.status.Status.TheVariants as status
use Rattle.schedule_rules.specs.Replays.{IsDone}
use Rattle.transcript_audit.specs.Audits.{Writes}
use Rattle.transcript_audit.specs.Groups.{Group}
use Rattle.transcript_audit.specs.Statuses.{may_end_audit}
use Rattle.transcript_audit.specs.Transcript.{transcript_of}

-- by what the source has left before and after, how often it failed, and the same of the sink
pub record Audits (ended : Status) (left left' : Option (List ℕ)) (failed failed' : ℕ) (held held' : Option (List ℕ)) (refused refused' : ℕ) : Type 0 where
  pub read : ended ≡ status.Ok → (bytes : List ℕ) → left ≡ Some bytes → left' ≡ Some []
  pub written : (bytes : List ℕ) → left ≡ Some bytes → Writes ended bytes (HasRisen failed failed') held held'
  -- its status is one of these, whatever the devices tell
  pub statuses : IsTrue (may_end_audit ended)
  pub read_fault : ended ≡ status.ReadFault → HasRisen failed failed'
  pub write_fault : ended ≡ status.WriteFault → HasRisen refused refused'
  -- a good transcript is judged, or memory was short, where no device failed
  pub complete : (bytes : List ℕ) (groups : List Group) → left ≡ Some bytes → transcript_of bytes ≡ Ok groups → ¬ HasRisen failed failed' → ¬ HasRisen refused refused' → IsDone ended

-- and no other device is used
pub record IsAudit (a : Seen) (ended : Status) (c : Seen) : Type 0 where
  pub audits : Audits ended a.left c.left a.source_faults c.source_faults a.told.held c.told.held a.told.sink_faults c.told.sink_faults
  pub rest : c.told ≡ record a.told { held = c.told.held; sink_faults = c.told.sink_faults }
