use Rattle.std.proofs.Common.{arith}
use Rattle.std.proofs.lemmas.Result.{err_from_is_err_and}
use Rattle.fabric_turns.proofs.Places.{leads_to, coming_end}
use Rattle.fabric_turns.proofs.startup.start_all.Goals as goal
use Rattle.turn_rules.specs.Whole.{setting}

pub start_next-requires-clause-kept : goal.start_next-requires-clause-kept
start_next-requires-clause-kept g c = let k = c.requires.kept in (k.0, c.loop-place.invariant.kept k.0 k.1)

pub loop-place-preserved : goal.loop-place-preserved
loop-place-preserved g c = record {
  done = λ list kept a h t.
      let k = c.loop-place.invariant.done list kept a h t in
      c.in_ok-start_next.ensures.done list (c.loop-place.invariant.kept list kept) a k.0 k.1;
  kept = λ list kept. c.in_ok-start_next.ensures.kept list (c.loop-place.invariant.kept list kept);
  ready = c.in_ok-start_next.ensures.ready;
  next = c.in_ok-start_next.ensures.more;
}

pub returns-in_err-start_next-clause-done : goal.returns-in_err-start_next-clause-done
returns-in_err-start_next-clause-done g c =
    let p = err_from_is_err_and c.from_residual.result c.from_residual.ensures.1 in
    λ list kept a h t.
    let k = c.loop-place.invariant.done list kept a h t in
    rw (p.1, p.2) (c.in_err-start_next.ensures.done list (c.loop-place.invariant.kept list kept) a k.0 k.1)

pub returns-clause-done : goal.returns-clause-done
returns-clause-done g c = λ list kept.
    leads_to (setting c.args.plan.now list) _ _ c.args.run.now c.loop-place.run _ _ _ (coming_end c.args.plan.now 0 c.loop-place.place (omega (arith, c.len-place-end.ensures))) (c.loop-place.invariant.done list kept)
