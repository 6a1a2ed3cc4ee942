-- The exit status of each way to end, and the way to end at each refusal.
use Rattle.std.specs.Prelude.{ℕ}
use Rattle.fabric_status.specs.declared.status.Refusal.{Refusal}
use Rattle.fabric_status.specs.declared.status.Refusal.TheVariants as refusal
use Rattle.fabric_status.specs.declared.status.Status.{Status}
use Rattle.fabric_status.specs.declared.status.Status.TheVariants.{Ok, OutOfMemory, Usage, ReadFault, WriteFault, BadConfig, BadLine, DriftBroken, NoSuch, TooLarge, KeepFault, LinkFault, ClockBack, Left, BadKeep, TableFull}

abbrev pub code_of : Status → ℕ
code_of Ok = 0
code_of OutOfMemory = 1
code_of Usage = 2
code_of ReadFault = 3
code_of WriteFault = 4
code_of (BadConfig e) = 5
code_of (BadLine n) = 6
code_of (DriftBroken n) = 7
code_of (NoSuch n) = 8
code_of (TooLarge n) = 9
code_of KeepFault = 10
code_of LinkFault = 11
code_of (ClockBack former latter) = 12
code_of (Left why) = 13
code_of (BadKeep i) = 14
code_of TableFull = 15

-- the status of a refusal
abbrev pub status_of : Refusal → Status
status_of (refusal.BadConfig e) = BadConfig e
status_of (refusal.BadLine n) = BadLine n
status_of (refusal.DriftBroken n) = DriftBroken n
status_of (refusal.NoSuch n) = NoSuch n
status_of (refusal.TooLarge n) = TooLarge n
