use Rattle.std.proofs.Common.{refl, ◌∙◌, arith}
use Rattle.std.proofs.lemmas.Result.{err_from_is_err_and}
use Rattle.turn_rules.specs.Whole.{setting}
use Rattle.fabric_turns.proofs.Places.{leads_to, coming_end}
use Rattle.fabric_turns.proofs.turns.turn_all.Goals as goal

pub returns-in_err-take_turn-clause-done : goal.returns-in_err-take_turn-clause-done
returns-in_err-take_turn-clause-done g c =
    let p = err_from_is_err_and c.from_residual.result c.from_residual.ensures.1 in
    λ kept a h t.
    let k = leads_to (setting c.args.plan.now kept) _ _ c.args.run.now c.loop-place.run _ _ _ refl (c.loop-place.invariant.done kept) a h t in
    rw (p.1, p.2) (c.in_err-take_turn.ensures.done kept a k.0 k.1)

pub loop-place-preserved : goal.loop-place-preserved
loop-place-preserved g c = record {
  done = λ kept a h t. let k = c.loop-place.invariant.done kept a h t in c.in_ok-take_turn.ensures.done kept a k.0 k.1;
  ready = c.in_ok-take_turn.ensures.ready;
  same = c.in_ok-take_turn.ensures.same ∙ c.loop-place.invariant.same;
}

pub returns-clause-done : goal.returns-clause-done
returns-clause-done g c = λ kept.
    leads_to (setting c.args.plan.now kept) _ _ c.args.run.now c.loop-place.run _ _ _ (coming_end c.args.plan.now c.args.turn.number c.loop-place.place (omega (arith, c.len-place-end.ensures))) (c.loop-place.invariant.done kept)
