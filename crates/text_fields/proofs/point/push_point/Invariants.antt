use Rattle.std.proofs.Common.{◌≡◌, ◌-◌, ◌++◌, drop, length}
use Rattle.text_fields.specs.Points.{hex_text}
use Rattle.text_fields.proofs.point.push_point.Given as goal

-- the digits that are left, and those that stand in the array
abbrev pub invariant-loop-i : goal.invariant-loop-i
invariant-loop-i l = (length l.digits ≡ 16) × (hex_text (16 - l.i) l.rest ++ drop (16 - l.i) l.digits ≡ hex_text 16 l.point)
