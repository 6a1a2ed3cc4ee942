use Rattle.std.proofs.Common.{◌≡◌, ◌++◌, take}
use Rattle.text_fields.specs.Texts.{Keeps}
use Rattle.write_safety.specs.Lines.{kept_lines}
use Rattle.write_safety.proofs.lines.push_logs.Given as goal

abbrev pub invariant-loop-log : goal.invariant-loop-log
invariant-loop-log l = (l.into.items ≡ l.fn.into.items ++ kept_lines (take l.log-index l.logs)) × Keeps l.fn.into.items l.into.items
