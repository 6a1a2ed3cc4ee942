use Rattle.lane_scan.proofs.First.{first_in_block, none_in_block}
use Rattle.lane_scan.proofs.near.place_of.Goals as goal

pub returns-then-hits-ne0 : goal.returns-then-hits-ne0
returns-then-hits-ne0 c =
    first_in_block c.args.points.now c.args.point c.loop-at.at c.hits-hits.result c.loop-at-test.true c.hits-hits.ensures c.if-hits-ne0.true c.loop-at.invariant.before

pub loop-at-preserved : goal.loop-at-preserved
loop-at-preserved c = record {
  inside = c.loop-at-test.true;
  before = none_in_block c.args.points.now c.args.point c.loop-at.at c.hits-hits.result c.loop-at-test.true c.hits-hits.ensures c.if-hits-ne0.false c.loop-at.invariant.before;
}
