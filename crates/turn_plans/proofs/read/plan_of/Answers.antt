use Rattle.std.proofs.Common.{List, [], Ok, sym, subst, ◌∙◌}
use Rattle.turn_rules.specs.declared.order.Order.{Order}
use Rattle.edge_io.specs.declared.endpoint.Endpoint.{Endpoint}
use Rattle.turn_plans.specs.Plans.{judge_from, plan_of}
use Rattle.turn_plans.specs.Reading.{AreJudged}
use Rattle.turn_plans.proofs.Planning.{planned, planned_error}
use Rattle.turn_plans.proofs.Runs.{is_plan, is_read}
use Rattle.turn_plans.proofs.read.plan_of.Goals as goal
use Rattle.turn_rules.specs.Plans.{IsPlan, Plan}

pub returns-in-Ok-clause-plan : goal.returns-in-Ok-clause-plan
returns-in-Ok-clause-plan g c =
    let read = subst (λ (es : List Endpoint). AreJudged (judge_from c.args.crew c.args.config es c.args.turns [] 1 2) c.args.reader.now.waiting (g.S.Source.left c.args.source.now) (Ok c.in-Ok.orders)) c.as_slice.ensures.value c.in-Ok.ensures.read.0 in (
      subst (λ (p : Plan). AreJudged (plan_of c.args.crew c.args.turns c.args.config) c.args.reader.now.waiting (g.S.Source.left c.args.source.now) (Ok p)) (sym (is_read c.args.config c.in_ok-actors.actors.items c.in-Ok.orders c.args.turns c.new.result c.first_whole-whole.result c.new.ensures c.first_whole-whole.ensures))
          (planned c.args.crew c.args.turns c.args.config c.in_ok-actors.actors.items c.args.reader.now.waiting (g.S.Source.left c.args.source.now) (Ok c.in-Ok.orders) c.in_ok-actors.ensures read),
      c.in-Ok.ensures.read.1,
    )

pub returns-in-Ok-clause-runs : goal.returns-in-Ok-clause-runs
returns-in-Ok-clause-runs g c =
    subst IsPlan (sym (is_read c.args.config c.in_ok-actors.actors.items c.in-Ok.orders c.args.turns c.new.result c.first_whole-whole.result c.new.ensures c.first_whole-whole.ensures))
    (is_plan c.args.crew c.args.config c.in_ok-actors.actors.items c.args.turns c.in-Ok.orders c.in_ok-actors.ensures c.requires.sound c.requires.crew c.in-Ok.ensures.fits c.in-Ok.ensures.rising)

pub returns-in-Err-clause-plan : goal.returns-in-Err-clause-plan
returns-in-Err-clause-plan g c =
    planned_error {B = List Order} (λ orders. orders) c.args.crew c.args.turns c.args.config c.as_slice.result.now c.args.reader.now.waiting (g.S.Source.left c.args.source.now) (g.S.Source.left c.take_lines.new.source) c.in-Err.error (c.as_slice.ensures.value ∙ c.in_ok-actors.ensures) c.in-Err.ensures.read
