use Rattle.std.proofs.Common.{◌≡◌}
use Rattle.part_tests.proofs.sockets.first_of.Given as goal

abbrev pub invariant-loop : goal.invariant-loop
invariant-loop g l = l.links.opened ≡ l.fn.links.opened
