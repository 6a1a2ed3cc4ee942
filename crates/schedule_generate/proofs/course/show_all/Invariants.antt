use Rattle.std.proofs.Common.{◌≡◌, take}
use Rattle.schedule_generate.specs.Shown.{shown}
use Rattle.schedule_generate.proofs.course.show_all.Given as goal

abbrev pub invariant-loop-i : goal.invariant-loop-i
invariant-loop-i l = l.readings.items ≡ shown l.time (take l.i l.clocks)
