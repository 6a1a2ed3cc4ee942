-- Sets of points as lists of intervals.
use Rattle.std.specs.Prelude.{ℕ, ◌+◌, ◌-◌, ◌^◌, Bool, true, ◌&&◌, List, [], ◌∷◌, length, nat_le, nat_lt, Result, Ok, Err, if◌then◌else◌}
use Rattle.std.specs.List.{list_any}
use Rattle.ring_points.specs.declared.interval.Interval.{Interval}
use Rattle.ring_points.specs.declared.ranges.TooMany.{TooMany}

abbrev pub in_interval : ℕ → Interval → Bool
in_interval p i = nat_le i.lo p && nat_le p i.hi

-- the point is in one of the intervals
abbrev pub in_ranges : ℕ → List Interval → Bool
in_ranges p intervals = list_any (in_interval p) intervals

-- each interval from low on, with a point missing before it
abbrev pub rises_from : ℕ → List Interval → Bool
rises_from low [] = true
rises_from low (i ∷ is) = nat_le low i.lo && nat_le i.lo i.hi && nat_lt i.hi (2 ^ 64) && rises_from (i.hi + 2) is

-- at most 32 intervals
abbrev pub fits : List Interval → Bool
fits is = nat_le (length is) 32

-- at most 32 intervals of the ring, rising, with a point missing between neighbours
abbrev pub is_proper : List Interval → Bool
is_proper is = fits is && rises_from 0 is

-- the set, if it has at most 32 intervals
abbrev pub fitting : List Interval → Result (List Interval) TooMany
fitting is = if fits is then Ok is else Err (record {})

abbrev pub whole_ring : List Interval
whole_ring = record { lo = 0; hi = 2 ^ 64 - 1 } ∷ []
