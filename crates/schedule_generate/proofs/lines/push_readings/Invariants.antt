use Rattle.std.proofs.Common.{◌≡◌, ◌++◌, take}
use Rattle.schedule_generate.specs.Texts.{readings_text}
use Rattle.schedule_generate.proofs.lines.push_readings.Given as goal

abbrev pub invariant-loop-i : goal.invariant-loop-i
invariant-loop-i l = l.text.items ≡ l.fn.text.items ++ readings_text (take l.i l.readings)
