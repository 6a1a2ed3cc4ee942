use Rattle.ring_world.specs.ConfiguredArbiters.{AreEmpty}
use Rattle.ring_world.proofs.world.empty_seats.Given as goal

abbrev pub invariant-loop-i : goal.invariant-loop-i
invariant-loop-i l = AreEmpty l.i l.seats.items
