use Rattle.std.proofs.Common.{None}
use Rattle.fabric_terms.specs.declared.event.Event.TheVariants.{Tick}
use Rattle.schedule_replay.proofs.Taking.{took_event, refused_event}
use Rattle.schedule_replay.proofs.schedule.take_tick.Goals as goal

pub returns-in_ok-tell-in-Ok-clause-follows : goal.returns-in_ok-tell-in-Ok-clause-follows
returns-in_ok-tell-in-Ok-clause-follows g c config h at =
    let e = Tick c.args.advance c.args.readings.now in
    let takes = c.in-Ok.ensures.answers config h c.args.number at.0 in
    let told = c.in_ok-tell-in-Ok.ensures.told config h e at.1 takes in
    took_event g.T.RunObserver.telling config h c.args.number e None c.tick.new.self (g.T.RunObserver.knows c.tell.new.self) c.args.text.now.items c.tell.new.text.items takes told.0 told.1

pub returns-in_ok-refusal_of-in-Err-clause-follows : goal.returns-in_ok-refusal_of-in-Err-clause-follows
returns-in_ok-refusal_of-in-Err-clause-follows g c config h at =
    refused_event g.T.RunObserver.telling config h c.args.number (Tick c.args.advance c.args.readings.now) c.in-Err.refusal c.in_ok-refusal_of-in-Err.field-0 c.tick.new.self (g.T.RunObserver.knows c.args.teller.now) c.args.text.now.items (c.in-Err.ensures.answers config h c.args.number at.0).refused c.in_ok-refusal_of-in-Err.ensures.ok ((c.in-Err.ensures.answers config h c.args.number at.0).stands, at.1)
