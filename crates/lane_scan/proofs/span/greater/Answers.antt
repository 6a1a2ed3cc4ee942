use Rattle.std.proofs.Common.{◌∙◌, ap, nat_lt, w64}
use lib.Lanes.{sel_l, zip2}
use Rattle.std.proofs.lemmas.Simd.{tops_compared}
use Rattle.lane_scan.specs.Spans.{greatest_of, turned}
use Rattle.lane_scan.proofs.Bounds.{greatest_selected}
use Rattle.lane_scan.proofs.span.greater.Goals as goal

pub returns : goal.returns
returns c =
    let tests = tops_compared w64 nat_lt c.turn.result c.turn-2.result ∙ ap (λ xs. zip2 nat_lt xs c.turn-2.result) c.turn.ensures ∙ ap (zip2 nat_lt (turned c.args.a)) c.turn-2.ensures in
    ap (λ ms. greatest_of (turned (sel_l ms c.args.b c.args.a))) tests ∙ greatest_selected c.args.a c.args.b c.fits-a.0 c.fits-b.0
