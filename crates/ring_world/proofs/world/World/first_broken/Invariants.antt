use Rattle.std.proofs.Common.{◌≡◌, true, drop}
use Rattle.unit_rules.specs.Fabric.{fabric}
use Rattle.world_rules.specs.Schedules.{are_of, readings_fit}
use Rattle.world_rules.specs.Worlds.{World as RuledWorld}
use Rattle.ring_world.specs.Drifts.{first_broken}
use Rattle.ring_world.specs.Stands.{Stands}
use Rattle.ring_world.proofs.world.World.first_broken.Given as goal

-- what is said of the rest is said of all
abbrev pub invariant-loop-i : goal.invariant-loop-i
invariant-loop-i l =
    (w : RuledWorld fabric) → Stands l.self w → are_of l.readings w.nodes ≡ true →
    (first_broken l.self.config w l.time (drop l.i l.readings) ≡ first_broken l.self.config w l.time l.readings)
    × (readings_fit l.self.config w l.time (drop l.i l.readings) ≡ readings_fit l.self.config w l.time l.readings)
