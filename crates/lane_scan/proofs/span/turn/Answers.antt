use Rattle.std.proofs.Common.{◌+◌, ◌%◌, ◌^◌}
use Rattle.std.proofs.lemmas.Simd.{zip2_splat}
use Rattle.lane_scan.proofs.span.turn.Goals as goal

pub returns : goal.returns
returns c = zip2_splat (λ x y. (x + y) % 2 ^ 64) c.args.lanes 8 (2 ^ 63) c.fits-lanes.0
