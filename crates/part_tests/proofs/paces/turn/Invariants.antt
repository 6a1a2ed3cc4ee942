use Rattle.std.proofs.Common.{◌≡◌}
use Rattle.part_tests.proofs.paces.turn.Given as goal

abbrev pub invariant-loop-actor : goal.invariant-loop-actor
invariant-loop-actor g l = l.links.opened ≡ l.fn.links.opened
