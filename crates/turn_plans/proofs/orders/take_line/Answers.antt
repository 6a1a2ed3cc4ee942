use Rattle.std.proofs.Common.{◌≡◌, ◌+◌, List, ap, subst, sym, ◌∙◌}
use Rattle.turn_rules.specs.declared.order.Order.{Order}
use Rattle.turn_plans.specs.PlanVerdicts.{CanBeKept, Ignored, Ordered, Refused, seen}
use Rattle.turn_plans.specs.Reading.{AreTaken}
use Rattle.turn_plans.proofs.Judging.{Given, judge, judged_so, verdict, within}
use Rattle.turn_plans.proofs.Taken.{taken_on}
use Rattle.turn_plans.proofs.orders.take_line.Goals as goal

pub returns-in-Ignored-clause-judged : goal.returns-in-Ignored-clause-judged
returns-in-Ignored-clause-judged c ls =
    let g : Given = record { crew = c.args.given.now.crew; config = c.args.given.now.config.now; actors = c.args.given.now.actors.now; turns = c.args.given.now.turns } in
    let is : verdict g c.args.least.now c.args.number c.args.line.now ≡ Ignored = sym c.line_verdict.ensures.verdict ∙ ap seen c.in-Ignored.is in
    (judged_so g c.args.orders.now c.args.least.now c.args.number c.args.line.now ls Ignored is, within g c.args.least.now c.args.number c.args.line.now Ignored is (λ refusal e. cc))

pub returns-in-Ok-clause-judged : goal.returns-in-Ok-clause-judged
returns-in-Ok-clause-judged c ls =
    let g : Given = record { crew = c.args.given.now.crew; config = c.args.given.now.config.now; actors = c.args.given.now.actors.now; turns = c.args.given.now.turns } in
    let o = c.in-Ordered.order in
    let is : verdict g c.args.least.now c.args.number c.args.line.now ≡ Ordered o = sym c.line_verdict.ensures.verdict ∙ ap seen c.in-Ordered.is in (
      judged_so g c.args.orders.now c.args.least.now c.args.number c.args.line.now ls (Ordered o) is ∙ ap (λ (os : List Order). judge g os o.turn (c.args.number + 1) ls) (sym c.in-Ok.ensures.ok),
      within g c.args.least.now c.args.number c.args.line.now (Ordered o) is (λ refusal e. cc),
    )

pub returns-in-Ok-clause-taken : goal.returns-in-Ok-clause-taken
returns-in-Ok-clause-taken c =
    let o = c.in-Ordered.order in
    let kept = subst (CanBeKept c.args.least.now) c.in-Ordered.is c.line_verdict.ensures.kept in
    subst (λ (os : List Order). AreTaken os o.turn) (sym c.in-Ok.ensures.ok) (taken_on c.args.orders.now c.args.least.now o c.in-Ordered.words.now c.requires kept.0 kept.1)

pub returns-in-Refused-clause-judged : goal.returns-in-Refused-clause-judged
returns-in-Refused-clause-judged c ls =
    let g : Given = record { crew = c.args.given.now.crew; config = c.args.given.now.config.now; actors = c.args.given.now.actors.now; turns = c.args.given.now.turns } in
    let is : verdict g c.args.least.now c.args.number c.args.line.now ≡ Refused c.in-Refused.refusal = sym c.line_verdict.ensures.verdict ∙ ap seen c.in-Refused.is in
    judged_so g c.args.orders.now c.args.least.now c.args.number c.args.line.now ls (Refused c.in-Refused.refusal) is
