use Rattle.std.proofs.Common.{◌∙◌, refl, sym}
use Rattle.fabric_turns.proofs.Places.{coming_at, goes_as}
use Rattle.fabric_turns.proofs.Recalling.{kept_here, kept_next, kept_taken}
use Rattle.fabric_turns.proofs.startup.start_next.Goals as goal
use Rattle.turn_rules.specs.Whole.{setting}

pub returns-clause-done : goal.returns-clause-done
returns-clause-done g c = λ list are.
    let k = kept_here c.args.plan.now c.args.place list c.args.kept.now.items c.requires.place are in
    let is = kept_taken c.args.plan.now c.args.place list c.args.kept.now.items c.index_mut.result.now c.in-Some.kept c.requires.place c.index_mut.ensures.value (sym c.take.ensures.value ∙ c.in-Some.is) are k in
    goes_as (setting c.args.plan.now list) _ _ c.args.run.now c.start.new.run _ _ _ _ c.start.result (coming_at c.args.plan.now 0 c.args.place c.requires.place) refl (c.start.ensures.done list k.records k.there is)

pub returns-clause-kept : goal.returns-clause-kept
returns-clause-kept g c = λ list are. kept_next c.args.plan.now c.args.place list c.args.kept.now.items _ c.take.new.self refl are

pub start-requires-clause-kept : goal.start-requires-clause-kept
start-requires-clause-kept g c =
    let are = c.requires.kept in
    let k = kept_here c.args.plan.now c.args.place are.0 c.args.kept.now.items c.requires.place are.1 in
    (k.records, kept_taken c.args.plan.now c.args.place are.0 c.args.kept.now.items c.index_mut.result.now c.in-Some.kept c.requires.place c.index_mut.ensures.value (sym c.take.ensures.value ∙ c.in-Some.is) are.1 k)
