use Rattle.std.proofs.Common.{◌≡◌, ◌+◌, ◌-◌, ◌≤◌, length}
use Rattle.text_fields.specs.Lists.{more_at, list_at}
use Rattle.text_fields.proofs.ListSteps.{put_at}
use Rattle.line_format.specs.Commands.{partition_at}
use Rattle.report_lines.proofs.report.list.partitions_at.Given as goal

-- the partitions so far, and then what is read of the rest; each comma took a byte
abbrev pub invariant-loop-more : goal.invariant-loop-more
invariant-loop-more l =
    (length l.rest + length l.partitions.items ≤ length l.words + 1)
    × (put_at l.partitions.items (more_at partition_at (length l.words + 1 - length l.partitions.items) l.rest) ≡ list_at partition_at (length l.words) l.words)

abbrev pub decreases-loop-more : goal.decreases-loop-more
decreases-loop-more l = length l.rest
