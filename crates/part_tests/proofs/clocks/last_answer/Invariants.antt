use Rattle.std.proofs.Common.{◌≡◌}
use Rattle.part_tests.proofs.clocks.last_answer.Given as goal

abbrev pub invariant-loop-time : goal.invariant-loop-time
invariant-loop-time g l = l.drift.latest.0 ≡ l.latest
