-- How a schedule begins.
use Rattle.std.specs.Prelude.{◌≡◌, [], Result, Ok, Err, IsTrue}
use Rattle.fabric_config.specs.declared.error.ConfigError.{ConfigError}
use Rattle.fabric_status.specs.declared.status.Refusal.TheVariants.{BadConfig}
use Rattle.fabric_terms.specs.declared.config.FabricConfig.{FabricConfig}
use Rattle.ring_world.specs.Answers.{StandsFor}
use Rattle.ring_world.specs.declared.world.World.{World}
use Rattle.schedule_replay.specs.Statuses.{is_of_line}
use Rattle.schedule_rules.specs.declared.halt.Halt.{Halt}
use Rattle.schedule_rules.specs.declared.halt.Halt.TheVariants as halt

-- the world that has taken no event, of the configuration that was read, or why there is none
abbrev pub Begins : Result FabricConfig ConfigError → Result World Halt → Type 0
Begins read (Ok world) = (c : FabricConfig) × (read ≡ Ok c) × StandsFor world c []
Begins read (Err (halt.Refused refusal)) = (error : ConfigError) × (read ≡ Err error) × (refusal ≡ BadConfig error) × IsTrue (is_of_line error)
Begins read (Err halt.OutOfMemory) = Unit {0}
Begins read (Err halt.SourceFailed) = ⊥
Begins read (Err halt.SinkFailed) = ⊥
