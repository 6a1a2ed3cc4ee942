use Rattle.std.proofs.Common.{Ok, Err, ◌∷◌, take}
use Rattle.std.proofs.lemmas.Result.{err_from_is_err_and}
use Rattle.fabric_turns.proofs.Hearing.{received_as}
use Rattle.serve_turns.proofs.Hearing.{absent_next, datagram_next, failed_next}
use Rattle.serve_turns.proofs.Placing.{can_received}
use Rattle.serve_turns.proofs.Turning.{turn_event}
use Rattle.serve_turns.proofs.datagrams.hear_one.Goals as goal
use Rattle.turn_rules.specs.Happenings.{Datagram, Hears}

pub returns-in-Err-clause-done : goal.returns-in-Err-clause-done
returns-in-Err-clause-done g c = λ n small o es t.
    failed_next c.args.service.now.plan o _ _ _ _ c.args.live.now es c.args.turn n c.receive.new.into small t c.requires.can.going c.requires.can.service.alone c.in-Err.field-0
    (received_as c.actor.result _ c.receive.new.into _ (Err c.in-Err.field-0) _ c.actor.ensures c.in-Err.ensures.received)

pub returns-in-Ok-None-clause-done : goal.returns-in-Ok-None-clause-done
returns-in-Ok-None-clause-done g c = λ n small o es t.
    absent_next c.args.service.now.plan o _ _ _ _ c.args.live.now es c.args.turn n c.receive.new.into small t c.requires.can.going c.requires.can.service.alone c.in-Ok-None.field-0 c.in-Ok-None.field-0-is
    (received_as c.actor.result _ c.receive.new.into _ (Ok c.in-Ok-None.field-0) _ c.actor.ensures c.in-Ok-None.ensures.received)

pub take_datagram-requires : goal.take_datagram-requires
take_datagram-requires g c = record { can = can_received c.args.service.now.plan c.args.live.now c.actor.result c.receive.new.into _ (Ok c.in-Ok-Some.field-0) _ c.in-Ok-Some.ensures.received c.requires.can }

pub returns-in_ok-take_datagram-in-Ok-Some-clause-done : goal.returns-in_ok-take_datagram-in-Ok-Some-clause-done
returns-in_ok-take_datagram-in-Ok-Some-clause-done g c = λ n small o es t.
    let received = received_as c.actor.result _ c.receive.new.into _ (Ok c.in-Ok-Some.field-0) _ c.actor.ensures c.in-Ok-Some.ensures.received in
    let met = datagram_next c.args.service.now.plan o _ _ _ _ c.args.live.now es c.args.turn n c.receive.new.into small t c.requires.can.going c.requires.can.service.alone c.in-Ok-Some.field-0 c.in-Ok-Some.count c.in-Ok-Some.field-0-is received in
    (turn_event c.args.turn (Hears (Datagram (take c.in-Ok-Some.count c.receive.new.into))) ∷ es, c.in_ok-take_datagram-in-Ok-Some.ensures.done o es _ met)

pub returns-in_err-take_datagram-in-Ok-Some-clause-done : goal.returns-in_err-take_datagram-in-Ok-Some-clause-done
returns-in_err-take_datagram-in-Ok-Some-clause-done g c =
    let p = err_from_is_err_and c.from_residual.result c.from_residual.ensures.1 in
    λ n small. rw (p.1, p.2) (λ o es t.
    let received = received_as c.actor.result _ c.receive.new.into _ (Ok c.in-Ok-Some.field-0) _ c.actor.ensures c.in-Ok-Some.ensures.received in
    let met = datagram_next c.args.service.now.plan o _ _ _ _ c.args.live.now es c.args.turn n c.receive.new.into small t c.requires.can.going c.requires.can.service.alone c.in-Ok-Some.field-0 c.in-Ok-Some.count c.in-Ok-Some.field-0-is received in
    c.in_err-take_datagram-in-Ok-Some.ensures.done o es _ met)
