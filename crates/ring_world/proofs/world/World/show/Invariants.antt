use Rattle.std.proofs.Common.{◌≡◌, true}
use Rattle.unit_rules.specs.Fabric.{fabric}
use Rattle.world_rules.specs.Schedules.{are_of}
use Rattle.world_rules.specs.Worlds.{World as RuledWorld}
use Rattle.ring_world.specs.Stands.{Stands}
use Rattle.ring_world.proofs.TickClocks.{ShowsSoFar}
use Rattle.ring_world.proofs.world.World.show.Given as goal

-- the clocks so far show their readings, and nothing else has changed
abbrev pub invariant-loop-i : goal.invariant-loop-i
invariant-loop-i l =
    (l.self ≡ record l.initial.self { running = l.self.running; clocks = l.self.clocks })
    × ((w : RuledWorld fabric) → Stands l.initial.self w → are_of l.readings w.nodes ≡ true → ShowsSoFar l.initial.self.config l.time l.self.running.items l.self.clocks.items l.readings l.i w.nodes)
