use Rattle.std.proofs.Common.{◌≡◌, ◌+◌, ◌-◌, ◌∷◌, [], length, arith, ap, sym, ◌∙◌, length-append}
use Rattle.std.proofs.lemmas.Result.{err_from_is_err_and}
use Rattle.wire_fields.specs.Readers.{times, number_at}
use Rattle.wire_fields.proofs.Times.{with_front, times_next, times_bad, times_done}
use Rattle.wire_fields.proofs.read.unit.members_of.Goals as goal

pub returns-in_err-node : goal.returns-in_err-node
returns-in_err-node c =
    let n = c.args.count in
    let i = c.loop.counter in
    let p = err_from_is_err_and c.from_residual.result c.from_residual.ensures.1 in
    rw p.1 (sym c.loop.invariant.1 ∙ times_bad (number_at 2) (n - i) (n - i - 1) _ _ (omega arith) c.in_err-node.ensures)

pub loop-preserved : goal.loop-preserved
loop-preserved c =
    let n = c.args.count in
    let i = c.loop.counter in
    let x = c.in_ok-node.node in
    let after = c.in_ok-node.after.now in
    let longer : length c.push.new.self ≡ length c.loop.members + 1 = ap length c.push.ensures ∙ length-append c.loop.members (x ∷ []) in (
      omega (arith, c.loop.invariant.0),
      ap (λ xs. with_front xs (times (n - (i + 1)) (number_at 2) after)) c.push.ensures
          ∙ (times_next (number_at 2) (n - i) (n - (i + 1)) c.loop.members c.loop.rest.now x after (omega arith) c.in_ok-node.ensures ∙ c.loop.invariant.1),
    )

pub returns : goal.returns
returns c =
    sym c.loop.invariant.1 ∙ times_done (number_at 2) (c.args.count - c.loop.counter) c.loop.members c.loop.rest.now (omega arith)
