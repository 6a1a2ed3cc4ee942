use Rattle.std.proofs.Common.{arith}
use Rattle.std.proofs.lemmas.Result.{err_from_is_err_and}
use Rattle.turn_effects.proofs.Sending.{sent_item, sent_until}
use Rattle.turn_effects.proofs.frames.send_each.Goals as goal

pub loop-frame-preserved : goal.loop-frame-preserved
loop-frame-preserved g c = sent_item c.args.config.now c.args.actor c.args.frames.now c.loop-frame.frame-index c.frame-item.result _ _ _ (omega arith) c.frame-item.is c.loop-frame.invariant c.in_ok-send_one.ensures

pub returns-in_err-send_one : goal.returns-in_err-send_one
returns-in_err-send_one g c =
    let p = err_from_is_err_and c.from_residual.result c.from_residual.ensures.1 in
    rw (p.1, p.2) (sent_until c.args.config.now c.args.actor c.args.frames.now c.loop-frame.frame-index c.frame-item.result _ _ _ (omega arith) c.frame-item.is c.loop-frame.invariant c.in_err-send_one.field-0.0 c.in_err-send_one.ensures)
