use Rattle.std.proofs.Common.{◌∷◌}
use Rattle.fabric_terms.specs.declared.event.Event.TheVariants.{Give}
use Rattle.schedule_replay.proofs.Taking.{took_event, refused_event}
use Rattle.schedule_replay.proofs.schedule.take_give.Goals as goal

pub returns-in_ok-tell-in-Ok-clause-follows : goal.returns-in_ok-tell-in-Ok-clause-follows
returns-in_ok-tell-in-Ok-clause-follows g c config h at =
    let e = Give c.args.frame in
    let takes = c.in-Ok.ensures config h at.0 in
    let told = c.in_ok-tell-in-Ok.ensures.told config h e at.1 takes in
    took_event g.T.RunObserver.telling config h c.args.number e c.in-Ok.acted c.recycle.new.self (g.T.RunObserver.knows c.tell.new.self) c.args.text.now.items c.tell.new.text.items
    (record { accepted = takes.accepted; stands = c.recycle.ensures.stands config ((c.args.number, e) ∷ h) takes.stands; entry = takes.entry; seen = takes.seen }) told.0 told.1

pub returns-in_ok-refusal_of-in-Err-clause-follows : goal.returns-in_ok-refusal_of-in-Err-clause-follows
returns-in_ok-refusal_of-in-Err-clause-follows g c config h at =
    refused_event g.T.RunObserver.telling config h c.args.number (Give c.args.frame) c.in-Err.refusal c.in_ok-refusal_of-in-Err.field-0 c.give.new.self (g.T.RunObserver.knows c.args.teller.now) c.args.text.now.items (c.in-Err.ensures config h at.0).refused c.in_ok-refusal_of-in-Err.ensures.ok ((c.in-Err.ensures config h at.0).stands, at.1)
