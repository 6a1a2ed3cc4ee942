-- How `audit` may end.
use Rattle.std.specs.Prelude.{Bool, true, false, Option, Some, None, IsTrue}
use Rattle.fabric_status.specs.Codes.{status_of}
use Rattle.fabric_status.specs.declared.status.Refusal.{Refusal}
use Rattle.fabric_status.specs.declared.status.Status.{Status}
use Rattle.fabric_status.specs.declared.status.Status.TheVariants.{Ok, OutOfMemory, Usage, ReadFault, WriteFault, BadConfig, BadLine, DriftBroken, NoSuch, TooLarge, KeepFault, LinkFault, ClockBack, Left, BadKeep, TableFull}
use Rattle.transcript_audit.specs.declared.transcript.Transcript.{Transcript}
use Rattle.transcript_audit.specs.declared.transcript.Transcript.TheVariants.{Good, Refused}

-- it uses a source and a sink alone, and refuses lines of a transcript, for what they say or for a limit
abbrev pub may_end_audit : Status → Bool
may_end_audit Ok = true
may_end_audit OutOfMemory = true
may_end_audit ReadFault = true
may_end_audit WriteFault = true
may_end_audit (BadLine n) = true
may_end_audit (TooLarge n) = true
may_end_audit Usage = false
may_end_audit (BadConfig e) = false
may_end_audit (DriftBroken n) = false
may_end_audit (NoSuch n) = false
may_end_audit KeepFault = false
may_end_audit LinkFault = false
may_end_audit (ClockBack former latter) = false
may_end_audit (Left why) = false
may_end_audit (BadKeep i) = false
may_end_audit TableFull = false

-- a line may be refused so
abbrev pub MayRefuse : Option Refusal → Type 0
MayRefuse None = Unit {0}
MayRefuse (Some refusal) = IsTrue (may_end_audit (status_of refusal))

-- and with it the transcript
abbrev pub MayRead : Transcript → Type 0
MayRead (Good text places) = Unit {0}
MayRead (Refused refusal) = MayRefuse (Some refusal)
