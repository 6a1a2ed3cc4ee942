use Rattle.std.proofs.Common.{◌+◌, ◌%◌, ◌^◌, sym, ◌∙◌, arith}
use Rattle.lane_scan.proofs.Ring.{Next, next_of, nearest_first, nearest_second}
use Rattle.lane_scan.proofs.near.nearest_point.Goals as goal

pub returns-then-nearer : goal.returns-then-nearer
returns-then-nearer c =
    let points = c.args.points.now in
    let key = c.args.key in
    let span = c.span_of-span.result in
    let next : Next key points ((key + span.least) % 2 ^ 64) ((key + span.greatest) % 2 ^ 64) = rw (c.span_of-span.ensures.least, c.span_of-span.ensures.greatest) (next_of key points c.requires (omega arith) (λ k. omega (arith, c.type_inv.points k))) in
    nearest_second key points _ _ next (sym c.nearer.ensures ∙ c.if-nearer.true)

pub returns-else-nearer : goal.returns-else-nearer
returns-else-nearer c =
    let points = c.args.points.now in
    let key = c.args.key in
    let span = c.span_of-span.result in
    let next : Next key points ((key + span.least) % 2 ^ 64) ((key + span.greatest) % 2 ^ 64) = rw (c.span_of-span.ensures.least, c.span_of-span.ensures.greatest) (next_of key points c.requires (omega arith) (λ k. omega (arith, c.type_inv.points k))) in
    nearest_first key points _ _ next (sym c.nearer.ensures ∙ c.if-nearer.false)
