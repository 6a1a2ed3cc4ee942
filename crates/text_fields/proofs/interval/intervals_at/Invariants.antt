use Rattle.std.proofs.Common.{◌≡◌, ◌-◌, ◌≤◌, length}
use Rattle.ring_points.specs.Limits.{most_intervals}
use Rattle.text_fields.specs.Intervals.{interval_at}
use Rattle.text_fields.specs.Lists.{more_at, list_at}
use Rattle.text_fields.proofs.ListSteps.{put_at}
use Rattle.text_fields.proofs.interval.intervals_at.Given as goal

-- the intervals so far, and then what is read of the rest
abbrev pub invariant-loop-more : goal.invariant-loop-more
invariant-loop-more l =
    (length l.intervals.items ≤ most_intervals)
    × (put_at l.intervals.items (more_at interval_at (most_intervals - length l.intervals.items) l.rest) ≡ list_at interval_at (most_intervals - 1) l.bytes)

abbrev pub decreases-loop-more : goal.decreases-loop-more
decreases-loop-more l = most_intervals - length l.intervals.items
