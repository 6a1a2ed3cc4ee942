use Rattle.std.proofs.Common.{◌≡◌, ◌<◌, ◌+◌, ◌-◌, ◌++◌, [], ◌∷◌, length, arith, sym, ap, ◌∙◌, length-append}
use Rattle.std.proofs.lemmas.Bool.Decides.{nat_tests}
use Rattle.std.proofs.lemmas.Result.{err_from_is_err_and}
use Rattle.ring_points.specs.Limits.{most_nodes}
use Rattle.line_format.specs.Lines.{readings_of}
use Rattle.line_format.proofs.Lists.{put_before}
use Rattle.line_format.proofs.TickLaws.{readings_full, readings_bad, readings_next, readings_done}
use Rattle.sched_text.proofs.event_line.tick.fill.Goals as goal

pub returns-then-len-eq-MAX_NODES : goal.returns-then-len-eq-MAX_NODES
returns-then-len-eq-MAX_NODES c =
    let rest = c.loop-rest.rest.now in
    let some : 0 < length rest = grind (arith, nat_tests) in
    let full : length c.loop-rest.readings.items ≡ most_nodes = omega (arith, c.len.ensures.value, c.if-len-eq-MAX_NODES.true) in
    sym c.loop-rest.invariant.1 ∙ readings_full (most_nodes - length c.loop-rest.readings.items) c.loop-rest.readings.items rest (omega arith) some

pub returns-in_err-node : goal.returns-in_err-node
returns-in_err-node c =
    let rest = c.loop-rest.rest.now in
    let some : 0 < length rest = grind (arith, nat_tests) in
    let room : 0 < most_nodes - length c.loop-rest.readings.items = omega (arith, c.loop-rest.invariant.0) in
    let p = err_from_is_err_and c.from_residual.result c.from_residual.ensures.1 in
    rw p.1 (sym c.loop-rest.invariant.1 ∙ readings_bad (most_nodes - length c.loop-rest.readings.items) c.loop-rest.readings.items rest room some c.in_err-node.ensures)

pub loop-rest-preserved : goal.loop-rest-preserved
loop-rest-preserved c =
    let rest = c.loop-rest.rest.now in
    let rs = c.loop-rest.readings.items in
    let more = rs ++ (c.in_ok-node.node, c.in_ok-node.reading) ∷ [] in
    let some : 0 < length rest = grind (arith, nat_tests) in
    let longer : length c.push.new.self.items ≡ length rs + 1 =
    ap length c.push.ensures.items ∙ length-append rs ((c.in_ok-node.node, c.in_ok-node.reading) ∷ []) in
    let room : 0 < most_nodes - length rs = omega (arith, c.loop-rest.invariant.0) in
    let less : most_nodes - length c.push.new.self.items ≡ most_nodes - length rs - 1 = omega arith in (
      omega arith,
      ap (λ xs. put_before xs (readings_of (most_nodes - length c.push.new.self.items) c.in_ok-node.after.now)) c.push.ensures.items
          ∙ (ap (λ n. put_before more (readings_of n c.in_ok-node.after.now)) less
          ∙ (readings_next (most_nodes - length rs) rs rest (c.in_ok-node.node, c.in_ok-node.reading) c.in_ok-node.after.now room some c.in_ok-node.ensures
          ∙ c.loop-rest.invariant.1)),
    )

pub returns : goal.returns
returns c =
    let rest = c.loop-rest.rest.now in
    let none : length rest ≡ 0 = grind (arith, nat_tests) in
    sym c.loop-rest.invariant.1 ∙ readings_done (most_nodes - length c.loop-rest.readings.items) c.loop-rest.readings.items rest none
