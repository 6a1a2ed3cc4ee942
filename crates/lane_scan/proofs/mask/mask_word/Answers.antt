use Rattle.std.proofs.Common.{arith, ◌∙◌, sym}
use Rattle.lane_scan.proofs.Blocks.{mask_of_block, mask_of_one, mask_of_none}
use Rattle.lane_scan.proofs.mask.mask_word.Goals as goal
use Rattle.lane_scan.proofs.mask.mask_word.Goals.{then-between, else-between}

pub loop-at-preserved : goal.loop-at-preserved
loop-at-preserved c = record {
  inside = c.loop-at-test.true;
  bits = mask_of_block c.args.lo c.args.hi c.args.points.now c.loop-at.at c.loop-at.word c.mask_lanes.result c.loop-at-test.true c.requires c.loop-at.invariant.bits c.mask_lanes.ensures;
}

pub loop-at-2-preserved : goal.loop-at-2-preserved
loop-at-2-preserved c = record {
  inside = omega arith;
  bits = elim c.if-between.branch [
    | then-between w ↦ w.word-is ∙ mask_of_one c.args.lo c.args.hi c.args.points.now c.loop-at-2.at c.loop-at-2.word c.loop-at-2-test.true c.requires c.loop-at-2.invariant.bits (sym c.between.ensures ∙ w.if-between.true)
    | else-between w ↦ w.word-is ∙ mask_of_none c.args.lo c.args.hi c.args.points.now c.loop-at-2.at c.loop-at-2.word c.loop-at-2-test.true c.loop-at-2.invariant.bits (sym c.between.ensures ∙ w.if-between.false)
  ];
}
