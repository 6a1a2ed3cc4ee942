use Rattle.std.proofs.Common.{◌++◌, ◌∷◌, length, Option, Some, Ok, refl, ap, sym, subst, ◌∙◌}
use Rattle.unit_rules.specs.Ruled.{ruled}
use Rattle.fabric_status.specs.declared.status.Refusal.{Refusal}
use Rattle.line_format.specs.Lines.{lines_of}
use Rattle.source_lines.specs.Reading.{TakesOf}
use Rattle.source_lines.specs.declared.next_line.NextLine.{NextLine}
use Rattle.schedule_replay.specs.Follows.{Follows}
use Rattle.schedule_rules.specs.Schedule.{judge_from, line_verdict}
use Rattle.schedule_replay.proofs.Lines.{took, long_refused, none_right}
use Rattle.schedule_replay.proofs.Statuses.{follows_may}
use Rattle.schedule_replay.proofs.run.take_next.Goals as goal

pub returns-in-Ok-End-clause-next : goal.returns-in-Ok-End-clause-next
returns-in-Ok-End-clause-next g c config h at =
    let taken = subst (λ (k : NextLine). TakesOf (Ok k) 4096 c.args.reader.now.lines (g.S.Source.left c.args.source.now) c.next.new.self (g.S.Source.left c.next.new.source)) c.in-Ok-End.field-0-is c.in-Ok-End.ensures.taken in
    record {
      at = at;
      text = refl;
      none = λ bytes e.
          let read = taken bytes e in
          (read.2.0, read.1 ∙ ap Some (none_right c.next.new.self.waiting read.0 read.2.1));
    }

pub returns-in-Ok-TooLong-clause-next : goal.returns-in-Ok-TooLong-clause-next
returns-in-Ok-TooLong-clause-next g c config h at =
    let taken = subst (λ (k : NextLine). TakesOf (Ok k) 4096 c.args.reader.now.lines (g.S.Source.left c.args.source.now) c.next.new.self (g.S.Source.left c.next.new.source)) c.in-Ok-TooLong.field-0-is c.in-Ok-TooLong.ensures.taken in
    record {
      text = refl;
      judged = λ bytes e. long_refused config h c.args.number (c.args.reader.now.lines.waiting ++ bytes) (taken bytes e).2.0;
    }

pub returns-in-Ok-None-clause-next : goal.returns-in-Ok-None-clause-next
returns-in-Ok-None-clause-next g c config h at =
    let taken = subst (λ (k : NextLine). TakesOf (Ok k) 4096 c.args.reader.now.lines (g.S.Source.left c.args.source.now) c.next.new.self (g.S.Source.left c.next.new.source)) c.in-Ok-Line.field-0-is c.in-Ok-Line.ensures.taken in
    let follows = subst (λ (r : Option Refusal). Follows g.T.RunObserver.telling config h c.args.number (line_verdict config (ruled config h) (length h) c.args.number c.line.result.now) r c.take_line.new.world (g.T.RunObserver.knows c.take_line.new.teller) c.args.text.now.items c.take_line.new.text.items) c.in-Ok-None.field-0-is (c.in-Ok-None.ensures.follows config h at) in
    let went = took g.T.RunObserver.telling config h c.args.number c.line.result.now c.take_line.new.world (g.T.RunObserver.knows c.take_line.new.teller) c.args.text.now.items c.take_line.new.text.items follows in
    record {
      history = went.history;
      at = went.at;
      more = went.more;
      text = went.text;
      lines = went.lines;
      leads = λ bytes e.
          let read = taken bytes e in
          (read.0, read.1, went.judged (lines_of (c.next.new.self.waiting ++ read.0)) ∙ ap (judge_from config h c.args.number) (ap (λ l. l ∷ lines_of (c.next.new.self.waiting ++ read.0)) c.line.ensures ∙ sym read.2.0));
    }

pub returns-in-Ok-Some-clause-may : goal.returns-in-Ok-Some-clause-may
returns-in-Ok-Some-clause-may g c config h at =
    let follows = subst (λ (r : Option Refusal). Follows g.T.RunObserver.telling config h c.args.number (line_verdict config (ruled config h) (length h) c.args.number c.line.result.now) r c.take_line.new.world (g.T.RunObserver.knows c.take_line.new.teller) c.args.text.now.items c.take_line.new.text.items) c.in-Ok-Some.field-0-is (c.in-Ok-Some.ensures.follows config h at) in
    follows_may g.T.RunObserver.telling config h c.args.number c.line.result.now c.in-Ok-Some.refusal c.take_line.new.world (g.T.RunObserver.knows c.take_line.new.teller) c.args.text.now.items c.take_line.new.text.items follows
