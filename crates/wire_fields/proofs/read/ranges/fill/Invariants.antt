use Rattle.std.proofs.Common.{◌≡◌, ◌-◌, length, take}
use Rattle.wire_fields.specs.Readers.{times, interval_at}
use Rattle.wire_fields.proofs.Times.{with_front}
use Rattle.wire_fields.proofs.read.ranges.fill.Given as goal

abbrev pub invariant-loop-place : goal.invariant-loop-place
invariant-loop-place l =
    with_front (take l.place-index l.places) (times (length l.fn.places - l.place-index) interval_at l.rest) ≡ times (length l.fn.places) interval_at l.bytes
