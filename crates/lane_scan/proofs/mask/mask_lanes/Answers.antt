use Rattle.std.proofs.Common.{ap, ◌∙◌, arith, ◌%◌, ◌^◌, nat_le, replicate, map}
use lib.Lanes.{mask_l, chunk}
use Rattle.std.proofs.lemmas.Simd.{length-chunk, mask_l-mod}
use Rattle.std.proofs.lemmas.List.{length-map}
use Rattle.lane_scan.specs.Masks.{is_between}
use Rattle.lane_scan.proofs.Blocks.{tops_of_both, between_is}
use Rattle.lane_scan.proofs.mask.mask_lanes.Goals as goal

pub returns : goal.returns
returns c =
    let xs = chunk c.args.at 8 c.args.points.now in
    let lows = replicate 8 c.args.lo in
    let highs = replicate 8 c.args.hi in
    let long = length-chunk c.args.at 8 c.args.points.now c.requires in
    let t = is_between c.args.lo c.args.hi in
    ap (λ ms. mask_l ms % 2 ^ 64) (tops_of_both nat_le nat_le lows xs xs highs ∙ between_is c.args.lo c.args.hi xs long)
    ∙ mask_l-mod (map t xs) 64 (omega (arith, long, length-map xs t))
