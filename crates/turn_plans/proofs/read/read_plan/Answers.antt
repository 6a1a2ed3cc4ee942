use Rattle.std.proofs.Common.{ℕ, List, Ok, Err, ap, sym, subst, ◌∙◌}
use Rattle.source_lines.specs.Lines.{most_first_line}
use Rattle.source_lines.specs.Reading.{IsLineOf, TakesOf}
use Rattle.source_lines.specs.declared.next_line.NextLine.{NextLine}
use Rattle.fabric_terms.specs.declared.config.FabricConfig.{FabricConfig}
use Rattle.turn_plans.specs.Plans.{Judges, config_for}
use Rattle.turn_plans.proofs.First.{first_error, first_long, first_none, first_read}
use Rattle.turn_plans.proofs.read.read_plan.Goals as goal

pub returns-in-Ok-End-clause-plan : goal.returns-in-Ok-End-clause-plan
returns-in-Ok-End-clause-plan g c =
    let taken = subst (λ (k : NextLine). TakesOf (Ok k) most_first_line c.in-Ok.reader (g.S.Source.left c.args.source.now) c.next.new.self (g.S.Source.left c.next.new.source)) c.in-Ok-End.field-0-is c.in-Ok-End.ensures.taken in
    first_none c.args.crew c.args.turns c.in-Ok.reader c.next.new.self (g.S.Source.left c.args.source.now) (g.S.Source.left c.next.new.source) c.in-Ok.ensures.0 taken

pub returns-in-Ok-TooLong-clause-plan : goal.returns-in-Ok-TooLong-clause-plan
returns-in-Ok-TooLong-clause-plan g c =
    let taken = subst (λ (k : NextLine). TakesOf (Ok k) most_first_line c.in-Ok.reader (g.S.Source.left c.args.source.now) c.next.new.self (g.S.Source.left c.next.new.source)) c.in-Ok-TooLong.field-0-is c.in-Ok-TooLong.ensures.taken in
    first_long c.args.crew c.args.turns c.in-Ok.reader c.next.new.self (g.S.Source.left c.args.source.now) (g.S.Source.left c.next.new.source) c.in-Ok.ensures.0 taken

pub returns-clause-plan : goal.returns-clause-plan
returns-clause-plan g c =
    let taken = subst (λ (k : NextLine). TakesOf (Ok k) most_first_line c.in-Ok.reader (g.S.Source.left c.args.source.now) c.next.new.self (g.S.Source.left c.next.new.source)) c.in-Ok-Line.field-0-is c.in-Ok-Line.ensures.taken in
    let line = subst (λ (k : NextLine). IsLineOf (Ok k) most_first_line c.next.new.self.line) c.in-Ok-Line.field-0-is c.in-Ok-Line.ensures.line in
    first_error c.args.crew c.args.turns c.in-Ok.reader c.next.new.self (g.S.Source.left c.args.source.now) (g.S.Source.left c.next.new.source) c.in-Ok.ensures.0 taken line.0 line.1 (g.S.Source.left c.next.new.source)
    c.in-Err-config_for.error (subst (λ (l : List ℕ). Judges {A = FabricConfig} {B = FabricConfig} (λ x. x) (config_for c.args.crew l) (Err c.in-Err-config_for.error)) c.line.ensures c.in-Err-config_for.ensures.config)

pub returns-in-Ok-config_for-clause-plan : goal.returns-in-Ok-config_for-clause-plan
returns-in-Ok-config_for-clause-plan g c =
    let taken = subst (λ (k : NextLine). TakesOf (Ok k) most_first_line c.in-Ok.reader (g.S.Source.left c.args.source.now) c.next.new.self (g.S.Source.left c.next.new.source)) c.in-Ok-Line.field-0-is c.in-Ok-Line.ensures.taken in
    let line = subst (λ (k : NextLine). IsLineOf (Ok k) most_first_line c.next.new.self.line) c.in-Ok-Line.field-0-is c.in-Ok-Line.ensures.line in
    first_read c.args.crew c.args.turns c.in-Ok.reader c.next.new.self (g.S.Source.left c.args.source.now) (g.S.Source.left c.next.new.source) c.in-Ok.ensures.0 taken line.0 line.1 (g.S.Source.left c.plan_of.new.source)
    c.in-Ok-config_for.config c.plan_of.result (ap (config_for c.args.crew) (sym c.line.ensures) ∙ c.in-Ok-config_for.ensures.config) c.plan_of.ensures.plan
