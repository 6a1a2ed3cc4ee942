-- Where a run over the lines of a schedule may halt.
use Rattle.std.specs.Prelude.{Result, Ok, Err, IsTrue}
use Rattle.fabric_status.specs.Codes.{status_of}
use Rattle.schedule_replay.specs.Statuses.{may_end_replay}
use Rattle.schedule_rules.specs.declared.halt.Halt.{Halt}
use Rattle.schedule_rules.specs.declared.halt.Halt.TheVariants as halt

-- a refusal is one with which a run may end
abbrev pub MayHalt : Halt → Type 0
MayHalt (halt.Refused refusal) = IsTrue (may_end_replay (status_of refusal))
MayHalt halt.SourceFailed = Unit {0}
MayHalt halt.OutOfMemory = Unit {0}
MayHalt halt.SinkFailed = Unit {0}

-- where it halts, it may halt there
abbrev pub HaltsRightly : {A : Type 0} → Result A Halt → Type 0
HaltsRightly (Ok x) = Unit {0}
HaltsRightly (Err stop) = MayHalt stop
