use Rattle.std.proofs.Common.{◌≡◌, take}
use Rattle.lane_scan.specs.Spans.{above, least_of, greatest_of}
use Rattle.lane_scan.proofs.span.short_span.Given as goal

abbrev pub invariant-loop-point : goal.invariant-loop-point
invariant-loop-point l = record {
  least : l.span.least ≡ least_of (above l.key (take l.point-index l.points));
  greatest : l.span.greatest ≡ greatest_of (above l.key (take l.point-index l.points));
}
