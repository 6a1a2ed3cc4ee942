use Rattle.std.proofs.Common.{◌∙◌, ap, min, max, get_or}
use Rattle.ring_points.specs.Distances.{ahead_of}
use Rattle.lane_scan.proofs.Growing.{least_next, greatest_next}
use Rattle.lane_scan.proofs.span.short_span.Goals as goal

pub loop-point-preserved : goal.loop-point-preserved
loop-point-preserved c =
    let points = c.args.points.now in
    let key = c.args.key in
    let at = c.loop-point.point-index in
    let above = ahead_of (get_or points at 0) key in
    record {
      least = c.min.ensures ∙ ap (λ m. min c.loop-point.span.least m) c.ahead-above.ensures ∙ ap (λ m. min m above) c.loop-point.invariant.least ∙ least_next key points at c.loop-point-test.true;
      greatest = c.max.ensures ∙ ap (λ m. max c.loop-point.span.greatest m) c.ahead-above.ensures ∙ ap (λ m. max m above) c.loop-point.invariant.greatest ∙ greatest_next key points at c.loop-point-test.true;
    }
