use Rattle.std.proofs.Common.{◌≡◌, ◌++◌, map}
use Rattle.schedule_generate.specs.Course.{arbiter_starts}
use Rattle.schedule_generate.specs.Moves.{events_for}
use Rattle.schedule_generate.specs.Settings.{numbers_from}
use Rattle.schedule_generate.proofs.opening.push_arbiters.Given as goal

abbrev pub invariant-loop-arbiter : goal.invariant-loop-arbiter
invariant-loop-arbiter l = events_for l.moves.items ≡ events_for l.fn.moves.items ++ map arbiter_starts (numbers_from 1 l.arbiter)
