-- How the words that run a schedule may end.
use Rattle.std.specs.Prelude.{Bool, true, false}
use Rattle.fabric_config.specs.declared.error.ConfigError.{ConfigError}
use Rattle.fabric_config.specs.declared.error.ConfigError.TheVariants as config_error
use Rattle.fabric_status.specs.declared.status.Status.{Status}
use Rattle.fabric_status.specs.declared.status.Status.TheVariants.{Ok, OutOfMemory, Usage, ReadFault, WriteFault, BadConfig, BadLine, DriftBroken, NoSuch, TooLarge, KeepFault, LinkFault, ClockBack, Left, BadKeep, TableFull}

-- a configuration is refused for what its line says, and never for want of memory
abbrev pub is_of_line : ConfigError → Bool
is_of_line config_error.NotJson = true
is_of_line (config_error.Missing field) = true
is_of_line (config_error.OutOfRange field value) = true
is_of_line (config_error.Repeated node) = true
is_of_line config_error.OutOfMemory = false

-- `replay` and `trace` use a source and a sink alone, and refuse lines of a schedule
abbrev pub may_end_replay : Status → Bool
may_end_replay Ok = true
may_end_replay OutOfMemory = true
may_end_replay ReadFault = true
may_end_replay WriteFault = true
may_end_replay (BadConfig e) = is_of_line e
may_end_replay (BadLine n) = true
may_end_replay (DriftBroken n) = true
may_end_replay (NoSuch n) = true
may_end_replay (TooLarge n) = true
may_end_replay Usage = false
may_end_replay KeepFault = false
may_end_replay LinkFault = false
may_end_replay (ClockBack former latter) = false
may_end_replay (Left why) = false
may_end_replay (BadKeep i) = false
may_end_replay TableFull = false
