-- The run of a schedule.
use Rattle.std.specs.Prelude.{ℕ, List, [], ◌∷◌}
use Rattle.fabric_terms.specs.declared.config.FabricConfig.{FabricConfig}
use Rattle.fabric_terms.specs.declared.event.Event.{Event}
use Rattle.fabric_terms.specs.Runs.{Moment, Run}
use Rattle.world_rules.specs.Uppers.{Upper}
use Rattle.world_rules.specs.Worlds.{World, Stepped, empty_world, clocks_in}
use Rattle.world_rules.specs.Events.{world_step}

-- events with the numbers of their lines, the newest first
abbrev pub History : Type 0
History = List (ℕ × Event)

abbrev pub world_after : (a : Upper) → FabricConfig → History → World a
world_after a c [] = empty_world a
world_after a c (e ∷ es) = (world_step a c (world_after a c es) e.1).world

-- what is seen after a step
abbrev pub moment_of : {a : Upper} → ℕ → Stepped a → Moment
moment_of line s = record { line = line; time = s.world.time; clocks = clocks_in s.world; entry = s.entry }

abbrev pub run_of : (a : Upper) → FabricConfig → History → Run
run_of a c [] = []
run_of a c (e ∷ es) = moment_of {a = a} e.0 (world_step a c (world_after a c es) e.1) ∷ run_of a c es
