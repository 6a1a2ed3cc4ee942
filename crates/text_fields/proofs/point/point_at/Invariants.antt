use Rattle.std.proofs.Common.{◌≡◌, ◌<◌, ◌^◌, ◌-◌, drop}
use Rattle.text_fields.specs.Points.{hex_at}
use Rattle.text_fields.proofs.point.point_at.Given as goal

-- the digits so far, and then what is read of the rest
abbrev pub invariant-loop-digit : goal.invariant-loop-digit
invariant-loop-digit l =
    (l.point < 16 ^ l.digit-index) × (hex_at (16 - l.digit-index) l.point (drop l.digit-index l.bytes) ≡ hex_at 16 0 l.bytes)
