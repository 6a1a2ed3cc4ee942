use Rattle.std.proofs.Common.{◌∙◌, sym, ap, min, take, get_or, arith}
use Rattle.lane_scan.specs.Spans.{least_of, turned}
use Rattle.lane_scan.proofs.Bounds.{least_of-more, length-turned}
use Rattle.lane_scan.proofs.span.least_lane.Goals as goal

pub loop-lane-preserved : goal.loop-lane-preserved
loop-lane-preserved c =
    let lanes = turned c.args.lanes in
    let i = c.loop-lane.lane-index in
    let long = length-turned c.args.lanes in
    c.min-least.ensures
    ∙ ap (λ m. min m (get_or c.turn.result i 0)) c.loop-lane.invariant
    ∙ ap (λ xs. min (least_of (take i lanes)) (get_or xs i 0)) c.turn.ensures
    ∙ sym (least_of-more lanes i (omega arith))
