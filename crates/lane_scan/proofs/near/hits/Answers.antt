use Rattle.std.proofs.Common.{arith, w64, nat_eq}
use lib.Lanes.{chunk}
use Rattle.std.proofs.lemmas.Simd.{bitmask_splat, length-chunk}
use Rattle.lane_scan.proofs.near.hits.Goals as goal

pub returns : goal.returns
returns c =
    let long = length-chunk c.args.at 8 c.args.points.now c.requires in
    bitmask_splat w64 nat_eq (chunk c.args.at 8 c.args.points.now) 8 c.args.point long (omega arith)
