use Rattle.std.proofs.Common.{refl, sym, ◌∙◌}
use Rattle.std.proofs.lemmas.Result.{err_from_is_err_and}
use Rattle.fabric_turns.proofs.Places.{arbiter_arrives, arbiter_heard_all}
use Rattle.serve_turns.proofs.Ordered.{not_ending, told_at}
use Rattle.serve_turns.proofs.Placing.{at_as, next_turn}
use Rattle.serve_turns.proofs.turns.arbiter_turn.Goals as goal

pub returns-in_err-take_lines-clause-done : goal.returns-in_err-take_lines-clause-done
returns-in_err-take_lines-clause-done g c =
    let p = err_from_is_err_and c.from_residual.result c.from_residual.ensures.1 in
    λ o es t.
    rw (p.1, p.2) (c.in_err-take_lines.ensures.done o es (at_as c.args.service.now.plan o _ c.args.live.now es _ _ (arbiter_arrives c.args.service.now.plan c.args.turn 0 c.requires.counted c.requires.arbiter) t))

pub hear-requires : goal.hear-requires
hear-requires g c = record { can = c.in_ok-take_lines.ensures.can (not_ending c.take_lines.new.live.ending c.take_lines.new.live.leaving (sym c.is_told_to_end.ensures ∙ c.if-is_told_to_end.false)) }

pub returns-then-is_told_to_end-clause-done : goal.returns-then-is_told_to_end-clause-done
returns-then-is_told_to_end-clause-done g c = λ o es t.
    let first = c.in_ok-take_lines.ensures.done o es (at_as c.args.service.now.plan o _ c.args.live.now es _ _ (arbiter_arrives c.args.service.now.plan c.args.turn 0 c.requires.counted c.requires.arbiter) t) in
    told_at c.args.service.now.plan o _ c.take_lines.new.live _ first.0 c.take_lines.new.live.ending c.take_lines.new.live.leaving refl refl (sym c.is_told_to_end.ensures ∙ c.if-is_told_to_end.true) first.1

pub returns-in_err-hear-clause-done : goal.returns-in_err-hear-clause-done
returns-in_err-hear-clause-done g c =
    let p = err_from_is_err_and c.from_residual-in_err-hear.result c.from_residual-in_err-hear.ensures.1 in
    λ o es t.
    let first = c.in_ok-take_lines.ensures.done o es (at_as c.args.service.now.plan o _ c.args.live.now es _ _ (arbiter_arrives c.args.service.now.plan c.args.turn 0 c.requires.counted c.requires.arbiter) t) in
    rw (p.1, p.2) (c.in_err-hear.ensures.done o first.0 first.1)

pub returns-clause-done : goal.returns-clause-done
returns-clause-done g c = λ o es t.
    let first = c.in_ok-take_lines.ensures.done o es (at_as c.args.service.now.plan o _ c.args.live.now es _ _ (arbiter_arrives c.args.service.now.plan c.args.turn 0 c.requires.counted c.requires.arbiter) t) in
    let second = c.in_ok-hear.ensures.done o first.0 first.1 in
    (second.0, at_as c.args.service.now.plan o _ _ second.0 _ _ (arbiter_heard_all c.args.service.now.plan c.args.turn 0 c.requires.arbiter ∙ next_turn c.args.service.now.plan c.args.turn c.requires.can.service.alone) second.1)
