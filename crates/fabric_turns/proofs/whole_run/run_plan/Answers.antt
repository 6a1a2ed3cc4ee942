use Rattle.std.proofs.Common.{[]}
use Rattle.std.proofs.lemmas.Result.{err_from_is_err_and}
use Rattle.fabric_turns.proofs.Opened.{ready_first, at_first, ends_stopped, ends_turns}
use Rattle.fabric_turns.proofs.Unopened.{ends_opening, ends_recalling}
use Rattle.fabric_turns.proofs.whole_run.run_plan.Goals as goal
use Rattle.turn_rules.specs.Whole.{with_endpoints}

pub start_all-requires-clause-ready : goal.start_all-requires-clause-ready
start_all-requires-clause-ready g c = ready_first c.args.plan.now c.new-run.result _ _ c.requires c.new-run.ensures c.in_ok-open_all.ensures

pub start_all-requires-clause-kept : goal.start_all-requires-clause-kept
start_all-requires-clause-kept g c = let k = c.in_ok-kept.ensures in (k.0, k.1.are_kept)

pub returns-in_err-kept : goal.returns-in_err-kept
returns-in_err-kept g c =
    let p = err_from_is_err_and c.from_residual.result c.from_residual.ensures.1 in
    rw (p.1, p.2) (ends_recalling c.args.plan.now _ _ c.in_err-kept.field-0.0 c.in_err-kept.ensures)

pub returns-in_err-open_all : goal.returns-in_err-open_all
returns-in_err-open_all g c =
    let p = err_from_is_err_and c.from_residual-in_err-open_all.result c.from_residual-in_err-open_all.ensures.1 in
    let k = c.in_ok-kept.ensures in
    rw (p.1, p.2) (ends_opening c.args.plan.now k.0 _ _ _ _ c.in_err-open_all.field-0.0 k.1 c.in_err-open_all.ensures)

pub returns-in_err-start_all : goal.returns-in_err-start_all
returns-in_err-start_all g c =
    let p = err_from_is_err_and c.from_residual-in_err-start_all.result c.from_residual-in_err-start_all.ensures.1 in
    let k = c.in_ok-kept.ensures in
    let first = at_first c.args.plan.now k.0 c.new-run.result _ _ _ c.new-run.ensures k.1.only c.in_ok-open_all.ensures in
    rw (p.1, p.2) (ends_stopped c.args.plan.now k.0 _ _ _ _ c.in_err-start_all.field-0.0 k.1 (c.in_err-start_all.ensures.done k.0 k.1.are_kept (with_endpoints c.args.plan.now _) [] first))

pub returns : goal.returns
returns g c =
    let k = c.in_ok-kept.ensures in
    let first = at_first c.args.plan.now k.0 c.new-run.result _ _ _ c.new-run.ensures k.1.only c.in_ok-open_all.ensures in
    let started = c.in_ok-start_all.ensures.done k.0 k.1.are_kept (with_endpoints c.args.plan.now _) [] first in
    ends_turns c.args.plan.now k.0 _ _ _ _ c.take_turns.new.run c.take_turns.result k.1 (c.take_turns.ensures.done k.0 (with_endpoints c.args.plan.now _) started.0 started.1)
