use Rattle.std.proofs.Common.{subst, sym}
use Rattle.edge_io.specs.Arrivals.{IsListening}
use Rattle.edge_io.specs.Told.{Told}
use Rattle.fabric_turns.specs.Steps.{work_in}
use Rattle.serve_turns.proofs.Carrying.{hands_nothing, sent_of}
use Rattle.serve_turns.proofs.actor_step.hand_and_send.Goals as goal
use Rattle.turn_effects.specs.Carried.{SendsAll}
use Rattle.turn_rules.specs.Effects.{own_sends}

pub send_all-requires-clause-listens : goal.send_all-requires-clause-listens
send_all-requires-clause-listens g c = subst (λ (t : Told). IsListening c.args.deed.now.head.who.actor t.opened) (sym c.hand_over.ensures) c.requires.listens

-- memory was short
pub returns-in-Err : goal.returns-in-Err
returns-in-Err g c = hands_nothing _ _ _ c.hand_over.ensures

pub returns-in-Ok : goal.returns-in-Ok
returns-in-Ok g c =
    let work = work_in c.args.service.now.plan.config c.args.deed.now in
    subst (λ (t : Told). SendsAll (own_sends work) t (g.O.Outside.told c.send_all.new.outside) c.send_all.result) c.hand_over.ensures
    (sent_of c.args.service.now.plan.config c.config.result.now c.args.deed.now c.as_slice-frames.result.now (g.O.Outside.told c.hand_over.new.self) (g.O.Outside.told c.send_all.new.outside) c.send_all.result c.config.ensures c.as_slice-frames.ensures c.send_all.ensures)
