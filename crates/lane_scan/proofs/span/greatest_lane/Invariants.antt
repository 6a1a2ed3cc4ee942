use Rattle.std.proofs.Common.{◌≡◌, take}
use Rattle.lane_scan.specs.Spans.{greatest_of, turned}
use Rattle.lane_scan.proofs.span.greatest_lane.Given as goal

abbrev pub invariant-loop-lane : goal.invariant-loop-lane
invariant-loop-lane l = l.greatest ≡ greatest_of (take l.lane-index (turned l.fn.lanes))
