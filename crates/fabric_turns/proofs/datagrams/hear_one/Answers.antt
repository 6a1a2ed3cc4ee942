use Rattle.std.proofs.Common.{Some, Ok, Err, ◌∷◌, take}
use Rattle.std.proofs.lemmas.Result.{err_from_is_err_and}
use Rattle.turn_rules.specs.Happenings.{Datagram}
use Rattle.turn_rules.specs.Whole.{setting}
use Rattle.fabric_turns.proofs.Hearing.{datagram_comes, nothing_comes, failure_comes, received_as, some_received, hears_at}
use Rattle.fabric_turns.proofs.datagrams.hear_one.Goals as goal

pub returns-in-Err-clause-done : goal.returns-in-Err-clause-done
returns-in-Err-clause-done g c = λ kept n small a h t.
    let e = c.actor_at.ensures in
    failure_comes (setting c.args.plan.now kept) a _ _ c.args.run.now h c.args.at.turn.number c.args.at.place n e.0 c.receive.new.into c.in-Err.field-0 small e.1.0 t (received_as c.actor_at.result e.0.actor c.receive.new.into _ (Err c.in-Err.field-0) _ e.1.1 c.in-Err.ensures.received)

pub returns-in-Ok-None-clause-done : goal.returns-in-Ok-None-clause-done
returns-in-Ok-None-clause-done g c = λ kept n small a h t.
    let e = c.actor_at.ensures in
    nothing_comes (setting c.args.plan.now kept) a _ _ c.args.run.now h c.args.at.turn.number c.args.at.place n e.0 c.receive.new.into c.in-Ok-None.field-0 c.in-Ok-None.field-0-is small e.1.0 t (received_as c.actor_at.result e.0.actor c.receive.new.into _ (Ok c.in-Ok-None.field-0) _ e.1.1 c.in-Ok-None.ensures.received)

pub returns-in_ok-take_datagram-in-Ok-Some-clause-done : goal.returns-in_ok-take_datagram-in-Ok-Some-clause-done
returns-in_ok-take_datagram-in-Ok-Some-clause-done g c = λ kept n small a h t.
    let e = c.actor_at.ensures in
    let came = datagram_comes (setting c.args.plan.now kept) a _ _ c.args.run.now h c.args.at.turn.number c.args.at.place n c.in-Ok-Some.count e.0 c.receive.new.into small e.1.0 t (received_as c.actor_at.result e.0.actor c.receive.new.into _ (Ok (Some c.in-Ok-Some.count)) _ e.1.1 (some_received c.actor_at.result c.receive.new.into _ c.in-Ok-Some.field-0 c.in-Ok-Some.count _ c.in-Ok-Some.field-0-is c.in-Ok-Some.ensures.received)) in
    (hears_at c.args.at.turn.number c.args.at.place (Datagram (take c.in-Ok-Some.count c.receive.new.into)) ∷ h, c.in_ok-take_datagram-in-Ok-Some.ensures.done kept a h _ came)

pub returns-in_err-take_datagram-in-Ok-Some-clause-done : goal.returns-in_err-take_datagram-in-Ok-Some-clause-done
returns-in_err-take_datagram-in-Ok-Some-clause-done g c =
    let p = err_from_is_err_and c.from_residual.result c.from_residual.ensures.1 in
    λ kept n small. rw (p.1, p.2) (λ a h t.
    let e = c.actor_at.ensures in
    let came = datagram_comes (setting c.args.plan.now kept) a _ _ c.args.run.now h c.args.at.turn.number c.args.at.place n c.in-Ok-Some.count e.0 c.receive.new.into small e.1.0 t (received_as c.actor_at.result e.0.actor c.receive.new.into _ (Ok (Some c.in-Ok-Some.count)) _ e.1.1 (some_received c.actor_at.result c.receive.new.into _ c.in-Ok-Some.field-0 c.in-Ok-Some.count _ c.in-Ok-Some.field-0-is c.in-Ok-Some.ensures.received)) in
    c.in_err-take_datagram-in-Ok-Some.ensures.done kept a h _ came)
