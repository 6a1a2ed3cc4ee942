-- The share of the ring that ranges are.
use Rattle.std.specs.Prelude.{ℕ, ◌+◌, ◌-◌, ◌/◌, List, fold, min}
use Rattle.ring_points.specs.declared.interval.Interval.{Interval}

-- the whole ring, in millionths
abbrev pub whole_share : ℕ
whole_share = 1000000

-- the points of a millionth of the ring, rounded down
abbrev pub millionth : ℕ
millionth = 18446744073709

abbrev pub share_with : ℕ → Interval → ℕ
share_with share i = min (share + (i.hi - i.lo) / millionth) whole_share

-- in millionths, each interval rounded down
abbrev pub share_of : List Interval → ℕ
share_of ranges = fold share_with 0 ranges
