use Rattle.std.proofs.Common.{◌≡◌, ◌-◌, ◌≤◌, length}
use Rattle.ring_points.specs.Limits.{most_listed_names}
use Rattle.text_fields.specs.Lists.{more_at, some_at}
use Rattle.text_fields.proofs.ListSteps.{put_at}
use Rattle.line_format.specs.Names.{name_at}
use Rattle.report_lines.proofs.report.list.some_names_at.Given as goal

-- the names so far, and then what is read of the rest
abbrev pub invariant-loop-more : goal.invariant-loop-more
invariant-loop-more l =
    (length l.names.items ≤ most_listed_names)
    × (put_at l.names.items (more_at name_at (most_listed_names - length l.names.items) l.rest) ≡ some_at name_at (most_listed_names - 1) l.words)

abbrev pub decreases-loop-more : goal.decreases-loop-more
decreases-loop-more l = most_listed_names - length l.names.items
