use Rattle.std.proofs.Common.{◌≡◌, take}
use Rattle.lane_scan.specs.Spans.{least_of, turned}
use Rattle.lane_scan.proofs.span.least_lane.Given as goal

abbrev pub invariant-loop-lane : goal.invariant-loop-lane
invariant-loop-lane l = l.least ≡ least_of (take l.lane-index (turned l.fn.lanes))
