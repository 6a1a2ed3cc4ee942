use Rattle.std.proofs.Common.{rules}
use Rattle.std.proofs.lemmas.Result.{err_from_is_err_and}
use Rattle.fabric_turns.proofs.Places.{node_arrives, node_heard_all}
use Rattle.serve_turns.proofs.Ordered.{can_when, goes_when, told_when}
use Rattle.serve_turns.proofs.Placing.{at_as, next_turn}
use Rattle.serve_turns.proofs.turns.node_turn.Goals as goal

pub take_orders-requires-clause-can : goal.take_orders-requires-clause-can
take_orders-requires-clause-can g c = c.in_ok-begin_turn.ensures.can c.args.service.now.plan c.requires.can

pub hear-requires : goal.hear-requires
hear-requires g c = record { can = can_when c.args.service.now.plan _ _ c.in_ok-take_orders.field-0 (search rules) c.in_ok-take_orders.ensures.can }

pub returns-in_err-begin_turn-clause-done : goal.returns-in_err-begin_turn-clause-done
returns-in_err-begin_turn-clause-done g c =
    let p = err_from_is_err_and c.from_residual.result c.from_residual.ensures.1 in
    λ o es t.
    rw (p.1, p.2) (c.in_err-begin_turn.ensures.done c.args.service.now.plan c.args.turn c.requires.can o es (at_as c.args.service.now.plan o _ c.args.live.now es _ _ (node_arrives c.args.service.now.plan c.args.turn 0 c.requires.counted c.requires.node) t))

pub returns-in_err-take_orders-clause-done : goal.returns-in_err-take_orders-clause-done
returns-in_err-take_orders-clause-done g c =
    let p = err_from_is_err_and c.from_residual-in_err-take_orders.result c.from_residual-in_err-take_orders.ensures.1 in
    λ o es t.
    let first = c.in_ok-begin_turn.ensures.done c.args.service.now.plan c.args.turn c.requires.can o es (at_as c.args.service.now.plan o _ c.args.live.now es _ _ (node_arrives c.args.service.now.plan c.args.turn 0 c.requires.counted c.requires.node) t) in
    rw (p.1, p.2) (c.in_err-take_orders.ensures.done o first.0 first.1)

pub returns-then-branch-clause-done : goal.returns-then-branch-clause-done
returns-then-branch-clause-done g c = λ o es t.
    let first = c.in_ok-begin_turn.ensures.done c.args.service.now.plan c.args.turn c.requires.can o es (at_as c.args.service.now.plan o _ c.args.live.now es _ _ (node_arrives c.args.service.now.plan c.args.turn 0 c.requires.counted c.requires.node) t) in
    told_when c.args.service.now.plan o _ _ _ c.in_ok-take_orders.field-0 (search rules) (c.in_ok-take_orders.ensures.done o first.0 first.1)

pub returns-in_err-hear-clause-done : goal.returns-in_err-hear-clause-done
returns-in_err-hear-clause-done g c =
    let p = err_from_is_err_and c.from_residual-in_err-hear.result c.from_residual-in_err-hear.ensures.1 in
    λ o es t.
    let first = c.in_ok-begin_turn.ensures.done c.args.service.now.plan c.args.turn c.requires.can o es (at_as c.args.service.now.plan o _ c.args.live.now es _ _ (node_arrives c.args.service.now.plan c.args.turn 0 c.requires.counted c.requires.node) t) in
    let second = goes_when c.args.service.now.plan o _ _ _ c.in_ok-take_orders.field-0 (search rules) (c.in_ok-take_orders.ensures.done o first.0 first.1) in
    rw (p.1, p.2) (c.in_err-hear.ensures.done o second.0 second.1)

pub returns-in_err-end_turn-clause-done : goal.returns-in_err-end_turn-clause-done
returns-in_err-end_turn-clause-done g c =
    let p = err_from_is_err_and c.from_residual-in_err-end_turn.result c.from_residual-in_err-end_turn.ensures.1 in
    λ o es t.
    let first = c.in_ok-begin_turn.ensures.done c.args.service.now.plan c.args.turn c.requires.can o es (at_as c.args.service.now.plan o _ c.args.live.now es _ _ (node_arrives c.args.service.now.plan c.args.turn 0 c.requires.counted c.requires.node) t) in
    let second = goes_when c.args.service.now.plan o _ _ _ c.in_ok-take_orders.field-0 (search rules) (c.in_ok-take_orders.ensures.done o first.0 first.1) in
    let third = c.in_ok-hear.ensures.done o second.0 second.1 in
    rw (p.1, p.2) (c.in_err-end_turn.ensures.done o third.0 (at_as c.args.service.now.plan o _ _ third.0 _ _ (node_heard_all c.args.service.now.plan c.args.turn 0 c.requires.node) third.1))

pub returns-clause-done : goal.returns-clause-done
returns-clause-done g c = λ o es t.
    let first = c.in_ok-begin_turn.ensures.done c.args.service.now.plan c.args.turn c.requires.can o es (at_as c.args.service.now.plan o _ c.args.live.now es _ _ (node_arrives c.args.service.now.plan c.args.turn 0 c.requires.counted c.requires.node) t) in
    let second = goes_when c.args.service.now.plan o _ _ _ c.in_ok-take_orders.field-0 (search rules) (c.in_ok-take_orders.ensures.done o first.0 first.1) in
    let third = c.in_ok-hear.ensures.done o second.0 second.1 in
    let fourth = c.in_ok-end_turn.ensures.done o third.0 (at_as c.args.service.now.plan o _ _ third.0 _ _ (node_heard_all c.args.service.now.plan c.args.turn 0 c.requires.node) third.1) in
    (fourth.0, at_as c.args.service.now.plan o _ _ fourth.0 _ _ (next_turn c.args.service.now.plan c.args.turn c.requires.can.service.alone) fourth.1)
