use Rattle.std.proofs.Common.{◌≡◌, ◌+◌, ◌-◌, ◌≤◌, length, take, drop, min, max}
use Rattle.lane_scan.specs.Spans.{above, least_of, greatest_of, turned}
use Rattle.lane_scan.proofs.span.span_of.Given as goal

-- of the last eight points, and of those before `at`
abbrev pub invariant-loop-at : goal.invariant-loop-at
invariant-loop-at l = record {
  inside : l.at ≤ length l.points;
  least : least_of (turned l.least) ≡ min (least_of (above l.key (take l.at l.points))) (least_of (above l.key (drop (length l.points - 8) l.points)));
  greatest : greatest_of (turned l.greatest) ≡ max (greatest_of (above l.key (take l.at l.points))) (greatest_of (above l.key (drop (length l.points - 8) l.points)));
}

abbrev pub decreases-loop-at : goal.decreases-loop-at
decreases-loop-at l = length l.points + 1 - l.at
