-- How the words that make a schedule may end.
use Rattle.std.specs.Prelude.{Bool, true, false}
use Rattle.fabric_status.specs.declared.status.Status.{Status}
use Rattle.fabric_status.specs.declared.status.Status.TheVariants.{Ok, OutOfMemory, Usage, ReadFault, WriteFault, BadConfig, BadLine, DriftBroken, NoSuch, TooLarge, KeepFault, LinkFault, ClockBack, Left, BadKeep, TableFull}

-- `generate` and `drill` use a sink alone, and refuse the event that they make for a limit alone
abbrev pub may_end_generate : Status → Bool
may_end_generate Ok = true
may_end_generate OutOfMemory = true
may_end_generate WriteFault = true
may_end_generate (TooLarge n) = true
may_end_generate Usage = false
may_end_generate ReadFault = false
may_end_generate (BadConfig e) = false
may_end_generate (BadLine n) = false
may_end_generate (DriftBroken n) = false
may_end_generate (NoSuch n) = false
may_end_generate KeepFault = false
may_end_generate LinkFault = false
may_end_generate (ClockBack former latter) = false
may_end_generate (Left why) = false
may_end_generate (BadKeep i) = false
may_end_generate TableFull = false
