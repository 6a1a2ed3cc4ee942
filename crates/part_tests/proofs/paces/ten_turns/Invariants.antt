use Rattle.std.proofs.Common.{◌≡◌}
use Rattle.part_tests.proofs.paces.ten_turns.Given as goal

abbrev pub invariant-loop : goal.invariant-loop
invariant-loop g l = l.links.opened ≡ l.fn.links.opened
