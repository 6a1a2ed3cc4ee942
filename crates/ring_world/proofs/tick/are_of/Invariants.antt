use Rattle.std.proofs.Common.{◌≡◌, drop}
use Rattle.ring_world.specs.Ticks.{are_of_clocks}
use Rattle.ring_world.proofs.tick.are_of.Given as goal

-- all readings so far are of the nodes in their order
abbrev pub invariant-loop-i : goal.invariant-loop-i
invariant-loop-i l = are_of_clocks (drop l.i l.readings) (drop l.i l.clocks) ≡ are_of_clocks l.readings l.clocks
