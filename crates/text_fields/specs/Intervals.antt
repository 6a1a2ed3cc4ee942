-- Intervals of points, and ranges as lists of them.
use Rattle.std.specs.Prelude.{ℕ, ◌-◌, Bool, List, ◌++◌, Option, Some, None, codes, nat_le, if◌then◌else◌}
use Rattle.ring_points.specs.Limits.{most_intervals}
use Rattle.ring_points.specs.declared.interval.Interval.{Interval}
use Rattle.ring_points.specs.Ranges.{is_proper}
use Rattle.text_fields.specs.Fields.{◌>>=◌, Field, last, made_at, pair_at, such_that}
use Rattle.text_fields.specs.Lists.{list_at}
use Rattle.text_fields.specs.Points.{point_at, point_text}
use Rattle.text_fields.specs.Texts.{listed}

abbrev pub interval_made : ℕ × ℕ → Interval
interval_made ends = record { lo = ends.0; hi = ends.1 }

-- `POINT-POINT`
unfoldable pub interval_at : List ℕ → Field Interval
interval_at = made_at interval_made (pair_at point_at (codes "-") point_at)

-- the first point is not above the second
abbrev pub is_rising : Interval → Bool
is_rising i = nat_le i.lo i.hi

-- `POINT-POINT` to the end of the line, and rising
abbrev pub span_of : List ℕ → Option Interval
span_of = such_that is_rising (last interval_at)

abbrev pub interval_text : Interval → List ℕ
interval_text i = point_text i.lo ++ (codes "-" ++ point_text i.hi)

-- the list of a range set: intervals with commas, or a dash
unfoldable pub ranges_at : List ℕ → Field (List Interval)
ranges_at bytes = list_at interval_at (most_intervals - 1) bytes >>= λ x. if is_proper x.0 then Some x else None

abbrev pub ranges_text : List Interval → List ℕ
ranges_text ranges = listed interval_text ranges
