use Rattle.std.proofs.Common.{◌∙◌, ap, arith, length, ◌-◌, drop}
use Rattle.lane_scan.specs.Spans.{above, least_of, greatest_of, turned}
use Rattle.lane_scan.proofs.Growing.{least_block, greatest_block, least_whole, greatest_whole, least_start, greatest_start}
use Rattle.lane_scan.proofs.span.span_of.Goals as goal

pub loop-at-init : goal.loop-at-init
loop-at-init c =
    let lanes = turned c.lanes_above-least.result in
    record {
      inside = omega arith;
      least = least_start c.args.key c.args.points.now lanes c.if-points-lt8.false c.lanes_above-least.ensures;
      greatest = greatest_start c.args.key c.args.points.now lanes c.if-points-lt8.false c.lanes_above-least.ensures;
    }

pub loop-at-preserved : goal.loop-at-preserved
loop-at-preserved c =
    let points = c.args.points.now in
    let key = c.args.key in
    let last = drop (length points - 8) points in
    let lanes = turned c.lanes_above-lanes.result in
    record {
      inside = c.loop-at-test.true;
      least = c.lesser-least.ensures ∙ least_block key points c.loop-at.at (least_of (above key last)) (least_of lanes) (least_of (turned c.loop-at.least)) (ap least_of c.lanes_above-lanes.ensures) c.loop-at.invariant.least;
      greatest = c.greater-greatest.ensures ∙ greatest_block key points c.loop-at.at (greatest_of (above key last)) (greatest_of lanes) (greatest_of (turned c.loop-at.greatest)) (ap greatest_of c.lanes_above-lanes.ensures) c.loop-at.invariant.greatest;
    }

pub returns-clause-least : goal.returns-clause-least
returns-clause-least c =
    c.least_lane.ensures ∙ c.loop-at.invariant.least ∙ least_whole c.args.key c.args.points.now (length c.args.points.now - 8) c.loop-at.at (omega arith) c.loop-at.invariant.inside

pub returns-clause-greatest : goal.returns-clause-greatest
returns-clause-greatest c =
    c.greatest_lane.ensures ∙ c.loop-at.invariant.greatest ∙ greatest_whole c.args.key c.args.points.now (length c.args.points.now - 8) c.loop-at.at (omega arith) c.loop-at.invariant.inside
