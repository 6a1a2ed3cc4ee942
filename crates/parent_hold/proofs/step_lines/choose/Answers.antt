use Rattle.std.proofs.Common.{◌||◌, ap, ◌∙◌}
use Rattle.log_lines.specs.Reports.{Choice, is_told, own_or}
use Rattle.parent_hold.specs.Lines.{nobody_asks}
use Rattle.parent_hold.proofs.Choices.{before_of, choice_is, last_own_of}
use Rattle.parent_hold.proofs.step_lines.choose.Goals as goal

pub returns-clause-hears : goal.returns-clause-hears
returns-clause-hears c =
    let written = c.args.written.now in
    c.is_written.ensures.written (before_of written.own) (choice_is written)
    ∙ ap (λ own. written.all || is_told c.args.report.now own nobody_asks) (last_own_of written.own)

pub returns-clause-next : goal.returns-clause-next
returns-clause-next c =
    let written = c.args.written.now in
    c.is_written.ensures.reported (before_of written.own) (choice_is written)
    ∙ ap (λ own. let after : Choice = record { all = written.all; own = own_or c.args.report.now own } in after) (last_own_of written.own)
