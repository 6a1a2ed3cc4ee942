use Rattle.std.proofs.lemmas.Result.{err_from_is_err_and}
use Rattle.fabric_turns.proofs.Recalling.{recalled_err, so_far_more, so_far_none}
use Rattle.fabric_turns.proofs.recovery.recall_all.Goals as goal

pub loop-place-init : goal.loop-place-init
loop-place-init g c = so_far_none c.args.plan.now _ c.new-all.result.items c.new-all.ensures.items

pub returns-in_err-kept : goal.returns-in_err-kept
returns-in_err-kept g c =
    let p = err_from_is_err_and c.from_residual.result c.from_residual.ensures.1 in
    let e = c.actor_at.ensures in
    rw (p.1, p.2) (recalled_err c.args.plan.now _ _ _ c.loop-place.place c.actor_at.result e.0 c.loop-place.all.items c.in_err-kept.field-0.0 c.loop-place.invariant e.1.0 e.1.1 c.in_err-kept.ensures)

pub loop-place-preserved : goal.loop-place-preserved
loop-place-preserved g c =
    let e = c.actor_at.ensures in
    so_far_more c.args.plan.now _ _ _ c.loop-place.place c.actor_at.result e.0 c.loop-place.all.items c.push_kept.new.into.items c.in_ok-kept.kept c.loop-place.invariant e.1.0 e.1.1 c.in_ok-kept.ensures c.in-Ok.ensures
