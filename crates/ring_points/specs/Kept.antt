-- What a sweep has kept when it has come to a point.
use Rattle.std.specs.Prelude.{◌≡◌, ℕ, ◌+◌, Bool, false, ◌&&◌, List, ◌++◌, Result, IsTrue, nat_lt, MatchOption}
use Rattle.std.specs.Option.{option_to_list}
use Rattle.ring_points.specs.declared.interval.Interval.{Interval}
use Rattle.ring_points.specs.declared.ranges.TooMany.{TooMany}
use Rattle.ring_points.specs.declared.ranges.sweep.Swept.{Swept}
use Rattle.ring_points.specs.Ranges.{in_ranges, rises_from, fitting}

abbrev pub intervals_of : Swept → List Interval
intervals_of k = k.intervals.items ++ option_to_list k.growing

-- the kept points below the point `at`; the last interval may still grow
pub record IsSwept (keep : ℕ → Bool) (k : Swept) (at : ℕ) : Type 0 where
  pub rising : IsTrue (rises_from 0 (intervals_of k))
  pub points : (p : ℕ) → in_ranges p (intervals_of k) ≡ (nat_lt p at && keep p)
  pub ends : MatchOption k.growing ((p : ℕ) → p + 1 ≡ at → keep p ≡ false) (λ i. i.hi + 1 ≡ at)

-- the one rising list of the kept points, if it has at most 32 intervals
abbrev pub IsAnswer : (ℕ → Bool) → Result (List Interval) TooMany → Type 0
IsAnswer keep result = (full : List Interval) → IsTrue (rises_from 0 full) → ((p : ℕ) → in_ranges p full ≡ keep p) → result ≡ fitting full
