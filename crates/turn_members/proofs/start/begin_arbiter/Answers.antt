use Rattle.std.proofs.Common.{◌≡◌, ap, ◌∙◌, arith, ℕ, None}
use Rattle.std.proofs.lemmas.Result.{err_from_is_err_and}
use Rattle.arbiter_core.specs.declared.answer.ArbiterError.TheVariants.{TableFull}
use Rattle.turn_members.proofs.Begins.{restored_does, restored_full}
use Rattle.turn_members.proofs.start.begin_arbiter.Goals as goal
use Rattle.world_rules.specs.Events.{arbiter_number}
use Rattle.ring_points.specs.Whos.{arbiter_actor}

pub returns-in_err-arbiter-clause-full : goal.returns-in_err-arbiter-clause-full
returns-in_err-arbiter-clause-full c =
    let p = err_from_is_err_and c.from_residual.result c.from_residual.ensures.1 in
    λ is c' whole records last of holds.
    let same : c.in_err-arbiter.field-0.0 ≡ TableFull = cc (is, p.1, p.2) in
    restored_full c' (arbiter_number c.args.actor) _ records c.in_err-arbiter.field-0.0 (c.as_slice.ensures ∙ holds.arbiter ∙ of) (c.in_err-arbiter.ensures (λ short. cc))

pub returns-clause-does : goal.returns-clause-does
returns-clause-does c = λ c' whole records last of holds.
    let high : c.args.actor ≡ arbiter_actor (arbiter_number c.args.actor) = omega (arith, c.requires.arbiter) in
    restored_does c' (arbiter_number c.args.actor) _ records c.in_ok-arbiter.arbiter _ (c.as_slice.ensures ∙ holds.arbiter ∙ of) c.in_ok-arbiter.ensures
    (c.arbiter_head.ensures ∙ ap (λ (n : ℕ). record { line = 0; time = None; who = record { actor = n; instance = 0 }; reading = None }) high) c.nothing.ensures.records c.nothing.ensures.frames c.nothing.ensures.reports
