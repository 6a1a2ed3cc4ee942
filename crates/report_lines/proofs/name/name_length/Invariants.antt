use Rattle.std.proofs.Common.{◌≡◌, ◌+◌, drop}
use Rattle.line_format.specs.Names.{name_length}
use Rattle.report_lines.proofs.name.name_length.Given as goal

-- all bytes so far can stand in a name
abbrev pub invariant-loop-i : goal.invariant-loop-i
invariant-loop-i l = l.i + name_length (drop l.i l.bytes) ≡ name_length l.bytes
