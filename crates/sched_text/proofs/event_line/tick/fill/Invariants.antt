use Rattle.std.proofs.Common.{◌≡◌, ◌-◌, ◌≤◌, length}
use Rattle.ring_points.specs.Limits.{most_nodes}
use Rattle.line_format.specs.Lines.{readings_of}
use Rattle.line_format.proofs.Lists.{put_before}
use Rattle.sched_text.proofs.event_line.tick.fill.Given as goal

-- the readings so far, and then what is read of the rest
abbrev pub invariant-loop-rest : goal.invariant-loop-rest
invariant-loop-rest l =
    (length l.readings.items ≤ most_nodes) × (put_before l.readings.items (readings_of (most_nodes - length l.readings.items) l.rest) ≡ readings_of most_nodes l.bytes)

abbrev pub decreases-loop-rest : goal.decreases-loop-rest
decreases-loop-rest l = most_nodes - length l.readings.items
