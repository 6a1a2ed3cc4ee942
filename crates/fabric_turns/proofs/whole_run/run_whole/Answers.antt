use Rattle.fabric_turns.proofs.Causes.{cause_of, complete}
use Rattle.fabric_turns.proofs.Opened.{both_loans, finishes_as}
use Rattle.turn_rules.proofs.Barred.{barred}
use Rattle.fabric_turns.proofs.whole_run.run_whole.Goals as goal

pub returns-clause-loans : goal.returns-clause-loans
returns-clause-loans g c =
    let f = finishes_as c.turns.result c.args.plan.now.turns c.run_plan-ended.result _ c.finish.result _ c.turns.ensures c.finish.ensures in
    both_loans c.args.plan.now _ _ c.run_plan-ended.result c.finish.result _ c.run_plan-ended.ensures f

pub returns-clause-run : goal.returns-clause-run
returns-clause-run g c =
    let f = finishes_as c.turns.result c.args.plan.now.turns c.run_plan-ended.result _ c.finish.result _ c.turns.ensures c.finish.ensures in
    let cause = cause_of c.args.plan.now _ _ c.run_plan-ended.result c.finish.result _ c.run_plan-ended.ensures f in
    record {
      runs = record { result = c.run_plan-ended.result; before_last = _; ends = c.run_plan-ended.ensures; finishes = f };
      cause = cause;
      complete = complete c.args.plan.now _ c.finish.result _ cause;
      bad = barred c.args.plan.now _ _ c.run_plan-ended.result c.finish.result _ c.run_plan-ended.ensures f;
    }
