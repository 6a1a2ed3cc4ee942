use Rattle.std.proofs.Common.{◌≡◌, ◌+◌, ◌*◌, take}
use Rattle.std.specs.List.{flat_map}
use Rattle.wire_fields.specs.Sizes.{interval_size}
use Rattle.wire_fields.specs.Texts.{interval_bytes}
use Rattle.wire_fields.specs.Writers.{Puts}
use Rattle.wire_fields.proofs.write.field.put_intervals.Given as goal

abbrev pub invariant-loop-interval : goal.invariant-loop-interval
invariant-loop-interval l =
    (l.end ≡ l.fn.at + interval_size * l.interval-index) × Puts (flat_map interval_bytes (take l.interval-index l.intervals)) l.fn.into l.fn.at l.into l.end
