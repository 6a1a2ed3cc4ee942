use Rattle.std.proofs.Common.{◌≡◌, ◌-◌, length}
use Rattle.wire_fields.specs.Readers.{times, number_at}
use Rattle.wire_fields.proofs.Times.{with_front}
use Rattle.wire_fields.proofs.read.unit.members_of.Given as goal

abbrev pub invariant-loop : goal.invariant-loop
invariant-loop l =
    (length l.members ≡ l.counter) × (with_front l.members (times (l.count - l.counter) (number_at 2) l.rest) ≡ times l.count (number_at 2) l.bytes)
