use Rattle.std.proofs.Common.{sym, ap, ◌∙◌, arith}
use Rattle.std.specs.Prelude.{◌||◌}
use Rattle.fabric_terms.specs.TakeOvers.{tells_take_over, was_taken_over}
use Rattle.run_audit.proofs.ToldOn.{told_on-next, told_on-all}
use Rattle.run_audit.proofs.take_overs.TakeOvers.hear.Goals as goal

pub loop-report-preserved : goal.loop-report-preserved
loop-report-preserved c = record {
  enough = omega (arith, c.hear_one.ensures.room, c.loop-report.invariant.enough);
  heard = λ t keeps v.
      let next = told_on-next c.args.who c.args.reports.now c.loop-report.report-index c.report-item.result t c.loop-report-test.true c.report-item.is in
      c.hear_one.ensures.heard v ∙ ap (λ b. tells_take_over v c.report-item.result || b) (c.loop-report.invariant.heard t keeps v) ∙ ap (was_taken_over v) (sym next);
}

pub returns : goal.returns
returns c = λ t keeps v.
    c.loop-report.invariant.heard t keeps v ∙ ap (was_taken_over v) (told_on-all c.args.who c.args.reports.now c.loop-report.report-index t (omega arith))
