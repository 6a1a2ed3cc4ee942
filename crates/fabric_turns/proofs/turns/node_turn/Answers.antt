use Rattle.std.proofs.lemmas.Result.{err_from_is_err_and}
use Rattle.turn_rules.specs.Whole.{setting}
use Rattle.fabric_turns.proofs.Coming.{ready_read, turn_began, turn_stopped}
use Rattle.fabric_turns.proofs.Places.{leads_to, node_heard_all}
use Rattle.fabric_turns.proofs.turns.node_turn.Goals as goal

pub bid_all-requires-clause-ready : goal.bid_all-requires-clause-ready
bid_all-requires-clause-ready g c = ready_read c.args.plan.now c.args.run.now c.read_clock.new.run _ _ c.in_ok-read_clock.field-0 c.requires.ready c.in_ok-read_clock.ensures.reads

pub returns-in_err-read_clock-clause-done : goal.returns-in_err-read_clock-clause-done
returns-in_err-read_clock-clause-done g c =
    let p = err_from_is_err_and c.from_residual.result c.from_residual.ensures.1 in
    λ kept a h t. rw (p.1, p.2)
    (turn_stopped (setting c.args.plan.now kept) a _ _ c.args.run.now c.read_clock.new.run h c.args.at.turn.number c.args.at.place c.in_err-read_clock.field-0.0 t c.in_err-read_clock.ensures.reads)

pub returns-in_err-bid_all-clause-done : goal.returns-in_err-bid_all-clause-done
returns-in_err-bid_all-clause-done g c =
    let p = err_from_is_err_and c.from_residual-in_err-bid_all.result c.from_residual-in_err-bid_all.ensures.1 in
    λ kept a h t.
    let first = turn_began (setting c.args.plan.now kept) a _ _ c.args.run.now c.read_clock.new.run h c.args.at.turn.number c.args.at.place c.in_ok-read_clock.field-0 t c.in_ok-read_clock.ensures.reads in
    rw (p.1, p.2) (c.in_err-bid_all.ensures.done kept a _ first)

pub returns-in_err-hear-clause-done : goal.returns-in_err-hear-clause-done
returns-in_err-hear-clause-done g c =
    let p = err_from_is_err_and c.from_residual-in_err-hear.result c.from_residual-in_err-hear.ensures.1 in
    λ kept a h t.
    let first = turn_began (setting c.args.plan.now kept) a _ _ c.args.run.now c.read_clock.new.run h c.args.at.turn.number c.args.at.place c.in_ok-read_clock.field-0 t c.in_ok-read_clock.ensures.reads in
    let second = c.in_ok-bid_all.ensures.done kept a _ first in
    rw (p.1, p.2) (c.in_err-hear.ensures.done kept a second.0 second.1)

pub returns-clause-done : goal.returns-clause-done
returns-clause-done g c = λ kept a h t.
    let first = turn_began (setting c.args.plan.now kept) a _ _ c.args.run.now c.read_clock.new.run h c.args.at.turn.number c.args.at.place c.in_ok-read_clock.field-0 t c.in_ok-read_clock.ensures.reads in
    let second = c.in_ok-bid_all.ensures.done kept a _ first in
    let third = leads_to (setting c.args.plan.now kept) _ _ c.bid_all.new.run c.hear.new.run _ _ _ (node_heard_all c.args.plan.now c.args.at.turn.number c.args.at.place c.requires.node) (c.in_ok-hear.ensures.done kept) a second.0 second.1 in
    c.fire.ensures.done kept a third.0 third.1
