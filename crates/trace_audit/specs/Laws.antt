-- What the laws of this crate say.
use Rattle.std.specs.Prelude.{◌≡◌, ℕ, List, length, Some, None, Ok}
use Rattle.unit_rules.specs.Fabric.{fabric}
use Rattle.fabric_terms.specs.declared.config.FabricConfig.{FabricConfig}
use Rattle.fabric_terms.specs.Primaries.{Safe}
use Rattle.fabric_terms.specs.Runs.{Run}
use Rattle.schedule_rules.specs.Schedule.{judge}
use Rattle.schedule_rules.specs.Telling.{IsTold}
use Rattle.schedule_rules.specs.Tellings.{trace_telling}
use Rattle.transcript_audit.specs.Transcript.{transcript_of}
use Rattle.world_rules.specs.Runs.{run_of}
use Rattle.trace_audit.specs.Recordings.{IsRecording, groups_of_run, trace_of}
use Rattle.trace_audit.specs.Traced.{IsAnsweredSafe, WithinLimits}

-- the text of a recording is read back as its groups
abbrev pub RecordingsAreRead : Type 0
RecordingsAreRead = (run : Run) → IsRecording run → WithinLimits (trace_of run) → transcript_of (trace_of run) ≡ Ok (groups_of_run run)

-- and where the run is safe, `audit` answers so
abbrev pub SafeRecordingsAreSafe : Type 0
SafeRecordingsAreSafe = (run : Run) → IsRecording run → WithinLimits (trace_of run) → Safe run → IsAnsweredSafe (trace_of run) (length run)

-- The text that `trace` writes of a schedule that is good, whatever its bytes are: one group for each moment of its run.
pub record IsTraceOf (bytes text : List ℕ) : Type 0 where
  pub config : FabricConfig
  pub judged : (judge bytes).config ≡ Some config
  pub groups : transcript_of text ≡ Ok (groups_of_run (run_of fabric config (judge bytes).history))
  pub safe : IsAnsweredSafe text (length (judge bytes).history)

abbrev pub TracedSchedulesAreSafe : Type 0
TracedSchedulesAreSafe =
    (bytes text : List ℕ) → (judge bytes).refused ≡ None → IsTold trace_telling (judge bytes) text → WithinLimits text → IsTraceOf bytes text
