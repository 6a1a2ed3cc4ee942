use Rattle.std.proofs.Common.{Some, refl, sym, ◌∙◌}
use Rattle.std.specs.Prelude.{Option}
use Rattle.fabric_terms.specs.declared.report.Head.{Head}
use Rattle.fabric_terms.specs.declared.report.Report.{Report}
use Rattle.transcript_audit.specs.Said.{Tells}
use Rattle.transcript_audit.proofs.Telling.{bad_read, tells_report, tells_sent, tells_nothing}
use Rattle.transcript_audit.proofs.group.take_line.Goals as goal

pub returns-in_ok-push-in-Ok-default-Some : goal.returns-in_ok-push-in-Ok-default-Some
returns-in_ok-push-in-Ok-default-Some c = λ g tells.
    tells_report c.args.line.now g c.args.told.now (record { who = Some c.in-Ok-default-Some.head.who; reports = c.push.new.self }) c.in-Ok-default-Some.head c.in-Ok-default-Some.report (sym c.is_ignored.ensures ∙ c.if-is_ignored.false) (rw c.in-Ok-default-Some.field-0-1-is at c.in-Ok-default-Some.ensures) tells refl c.in_ok-push-in-Ok-default-Some.ensures.items

pub returns-in-Ok-default-None : goal.returns-in-Ok-default-None
returns-in-Ok-default-None c = λ g tells.
    tells_sent c.args.line.now g c.args.told.now (record { who = Some c.in-Ok-default-None.head.who; reports = c.args.told.now.reports }) c.in-Ok-default-None.head (sym c.is_ignored.ensures ∙ c.if-is_ignored.false) (rw c.in-Ok-default-None.field-0-1-is at c.in-Ok-default-None.ensures) tells refl refl

pub returns-in-Err-BadLine : goal.returns-in-Err-BadLine
returns-in-Err-BadLine c = λ g tells.
    tells_nothing c.args.line.now g c.args.told.now (sym c.is_ignored.ensures ∙ c.if-is_ignored.false) (bad_read (λ (x : Head × Option Report). Tells x.0.line x.0.who x.1) c.in-Err-BadLine.field-0 _ c.in-Err-BadLine.field-0-is c.in-Err-BadLine.ensures) tells
