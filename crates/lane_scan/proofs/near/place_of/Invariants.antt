use Rattle.std.proofs.Common.{◌≢◌, ℕ, ◌+◌, ◌-◌, ◌<◌, ◌≤◌, length, get_or}
use Rattle.lane_scan.proofs.near.place_of.Given as goal

abbrev pub invariant-loop-at : goal.invariant-loop-at
invariant-loop-at l = record {
  inside : l.at ≤ length l.points;
  before : (k : ℕ) → k < l.at → get_or l.points k 0 ≢ l.point;
}

abbrev pub decreases-loop-at : goal.decreases-loop-at
decreases-loop-at l = length l.points + 1 - l.at

abbrev pub invariant-loop-at-2 : goal.invariant-loop-at-2
invariant-loop-at-2 l = record {
  inside : l.at ≤ length l.points;
  before : (k : ℕ) → k < l.at → get_or l.points k 0 ≢ l.point;
}

abbrev pub decreases-loop-at-2 : goal.decreases-loop-at-2
decreases-loop-at-2 l = length l.points - l.at
