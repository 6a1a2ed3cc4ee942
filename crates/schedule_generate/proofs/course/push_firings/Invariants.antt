use Rattle.std.proofs.Common.{◌≡◌, map, take}
use Rattle.schedule_generate.specs.Course.{fires}
use Rattle.schedule_generate.specs.Moves.{events_for}
use Rattle.schedule_generate.specs.Shown.{nodes_of}
use Rattle.schedule_generate.proofs.course.push_firings.Given as goal

abbrev pub invariant-loop-i : goal.invariant-loop-i
invariant-loop-i l = events_for l.moves.items ≡ map fires (nodes_of (take l.i l.readings))
