use Rattle.fabric_turns.proofs.Opened.{opened_more}
use Rattle.fabric_turns.proofs.recovery.open_all.Goals as goal

pub loop-place-preserved : goal.loop-place-preserved
loop-place-preserved g c =
    let e = c.actor_at.ensures in
    let f = c.address_at.ensures in
    opened_more c.args.plan.now c.loop-place.place c.actor_at.result c.address_at.result.now e.0 f.0 _ _ _ c.in-Ok.field-0 c.loop-place.invariant c.in-Ok.ensures e.1.0 e.1.1 f.1.0 f.1.1
