use Rattle.std.proofs.Common.{◌≡◌, ◌++◌, Ok, ap, sym, subst, ◌∙◌}
use Rattle.fabric_config.specs.Config.{config_of_line}
use Rattle.fabric_config.specs.declared.error.ConfigError.TheVariants.{NotJson}
use Rattle.fabric_status.specs.declared.status.Refusal.TheVariants.{BadConfig, TooLarge}
use Rattle.line_format.specs.Lines.{lines_of}
use Rattle.source_lines.specs.Reading.{TakesOf}
use Rattle.source_lines.specs.declared.next_line.NextLine.{NextLine}
use Rattle.schedule_rules.specs.Halts.{HaltsAt}
use Rattle.schedule_rules.specs.Schedule.{judge, judge_rest}
use Rattle.schedule_rules.specs.declared.halt.Halt.TheVariants as halt
use Rattle.schedule_replay.proofs.Lines.{none_right}
use Rattle.schedule_rules.proofs.First.{first_none, first_long, first_read, first_refusal, first_failure, first_good}
use Rattle.schedule_replay.specs.Waits.{FrontOf}
use Rattle.schedule_replay.proofs.Beginning.{first_halts, begins_as}
use Rattle.schedule_replay.proofs.Waits.{heading_waits}
use Rattle.schedule_replay.proofs.Statuses.{begins_may}
use Rattle.schedule_replay.proofs.run.take_all.Goals as goal

pub returns-in-Err-clause-waits : goal.returns-in-Err-clause-waits
returns-in-Err-clause-waits g c bytes e is = heading_waits g.T.RunObserver.telling bytes (g.K.Sink.held c.args.sink.now) c.args.text.now.items c.requires.heading

pub returns-in-Err-next-clause-halts : goal.returns-in-Err-next-clause-halts
returns-in-Err-next-clause-halts g c bytes e =
    let read = c.in-Err-next.ensures.taken bytes e in
    first_failure g.T.RunObserver.telling bytes c.next.new.self.waiting read.0 (g.S.Source.left c.next.new.source) (g.K.Sink.held c.args.sink.now) c.args.text.now.items read.2.0 read.1 (read.2.1 ∙ ap (λ w. w ++ bytes) c.in-Ok.ensures) c.requires.heading

pub returns-in-Ok-End-clause-halts : goal.returns-in-Ok-End-clause-halts
returns-in-Ok-End-clause-halts g c bytes e =
    let taken = subst (λ (k : NextLine). TakesOf (Ok k) 65536 c.in-Ok.reader.lines (g.S.Source.left c.args.source.now) c.next.new.self (g.S.Source.left c.next.new.source)) c.in-Ok-End.field-0-is c.in-Ok-End.ensures.taken in
    let read = taken bytes e in
    first_refusal g.T.RunObserver.telling bytes (BadConfig NotJson) (g.S.Source.left c.next.new.source) (g.K.Sink.held c.args.sink.now) c.args.text.now.items (first_none bytes (none_right c.in-Ok.reader.lines.waiting bytes read.2.0)) c.requires.heading

pub returns-in-Ok-TooLong-clause-halts : goal.returns-in-Ok-TooLong-clause-halts
returns-in-Ok-TooLong-clause-halts g c bytes e =
    let taken = subst (λ (k : NextLine). TakesOf (Ok k) 65536 c.in-Ok.reader.lines (g.S.Source.left c.args.source.now) c.next.new.self (g.S.Source.left c.next.new.source)) c.in-Ok-TooLong.field-0-is c.in-Ok-TooLong.ensures.taken in
    let read = taken bytes e in
    first_refusal g.T.RunObserver.telling bytes (TooLarge 1) (g.S.Source.left c.next.new.source) (g.K.Sink.held c.args.sink.now) c.args.text.now.items (ap (λ w. judge (w ++ bytes)) (sym c.in-Ok.ensures) ∙ first_long (c.in-Ok.reader.lines.waiting ++ bytes) read.2.0) c.requires.heading

pub take_rest-requires-clause-first : goal.take_rest-requires-clause-first
take_rest-requires-clause-first g c =
    let begins = c.in-Ok-first_world.ensures in
    (begins.0, (begins.2, c.requires.knows begins.0))

pub returns-in-Ok-first_world-clause-halts : goal.returns-in-Ok-first_world-clause-halts
returns-in-Ok-first_world-clause-halts g c bytes e =
    let taken = subst (λ (k : NextLine). TakesOf (Ok k) 65536 c.in-Ok.reader.lines (g.S.Source.left c.args.source.now) c.next.new.self (g.S.Source.left c.next.new.source)) c.in-Ok-Line.field-0-is c.in-Ok-Line.ensures.taken in
    let read = taken bytes e in
    let line = c.next.new.self.line in
    let rest = c.next.new.self.waiting ++ read.0 in
    let judged : judge bytes ≡ judge_rest (lines_of rest) (config_of_line line) = ap (λ w. judge (w ++ bytes)) (sym c.in-Ok.ensures) ∙ first_read (c.in-Ok.reader.lines.waiting ++ bytes) line rest read.2.0 read.2.1 in
    let begins = c.in-Ok-first_world.ensures in
    let good : config_of_line line ≡ Ok begins.0 = ap config_of_line (sym c.line.ensures) ∙ begins.1 in
    subst (λ j. HaltsAt g.T.RunObserver.telling c.take_rest.result j (g.S.Source.left c.take_rest.new.source) (g.K.Sink.held c.args.sink.now) (g.K.Sink.held c.take_rest.new.sink) c.take_rest.new.text.items)
    (first_good bytes line rest begins.0 judged good) (c.take_rest.ensures.halts begins.0 read.0 (begins.2, c.requires.knows begins.0) read.1)

pub returns-in-Ok-first_world-clause-waits : goal.returns-in-Ok-first_world-clause-waits
returns-in-Ok-first_world-clause-waits g c bytes e is =
    let taken = subst (λ (k : NextLine). TakesOf (Ok k) 65536 c.in-Ok.reader.lines (g.S.Source.left c.args.source.now) c.next.new.self (g.S.Source.left c.next.new.source)) c.in-Ok-Line.field-0-is c.in-Ok-Line.ensures.taken in
    let read = taken bytes e in
    let line = c.next.new.self.line in
    let rest = c.next.new.self.waiting ++ read.0 in
    let judged : judge bytes ≡ judge_rest (lines_of rest) (config_of_line line) = ap (λ w. judge (w ++ bytes)) (sym c.in-Ok.ensures) ∙ first_read (c.in-Ok.reader.lines.waiting ++ bytes) line rest read.2.0 read.2.1 in
    let begins = c.in-Ok-first_world.ensures in
    let good : config_of_line line ≡ Ok begins.0 = ap config_of_line (sym c.line.ensures) ∙ begins.1 in
    subst (λ j. FrontOf g.T.RunObserver.telling j (g.K.Sink.held c.args.sink.now) (g.K.Sink.held c.take_rest.new.sink) c.take_rest.new.text.items)
    (first_good bytes line rest begins.0 judged good) (c.take_rest.ensures.waits begins.0 read.0 (begins.2, c.requires.knows begins.0) read.1 is)

pub returns-clause-halts : goal.returns-clause-halts
returns-clause-halts g c bytes e =
    let taken = subst (λ (k : NextLine). TakesOf (Ok k) 65536 c.in-Ok.reader.lines (g.S.Source.left c.args.source.now) c.next.new.self (g.S.Source.left c.next.new.source)) c.in-Ok-Line.field-0-is c.in-Ok-Line.ensures.taken in
    let read = taken bytes e in
    let line = c.line.result.now in
    let rest = c.next.new.self.waiting ++ read.0 in
    let judged : judge bytes ≡ judge_rest (lines_of rest) (config_of_line line) =
    ap (λ w. judge (w ++ bytes)) (sym c.in-Ok.ensures)
    ∙ (first_read (c.in-Ok.reader.lines.waiting ++ bytes) c.next.new.self.line rest read.2.0 read.2.1 ∙ ap (λ l. judge_rest (lines_of rest) (config_of_line l)) (sym c.line.ensures)) in
    first_halts g.T.RunObserver.telling bytes line rest c.in-Err-first_world.halt (g.S.Source.left c.next.new.source) (g.K.Sink.held c.args.sink.now) c.args.text.now.items judged c.requires.heading c.in-Err-first_world.ensures

pub returns-clause-waits : goal.returns-clause-waits
returns-clause-waits g c bytes e is = heading_waits g.T.RunObserver.telling bytes (g.K.Sink.held c.args.sink.now) c.args.text.now.items c.requires.heading

pub returns-clause-source_failed : goal.returns-clause-source_failed
returns-clause-source_failed g c is =
    let same : c.in-Err-first_world.halt ≡ halt.SourceFailed = cc in
    let no : ⊥ = begins_as (config_of_line c.line.result.now) c.in-Err-first_world.halt halt.SourceFailed c.in-Err-first_world.ensures same in
    absurd no

pub returns-clause-sink_failed : goal.returns-clause-sink_failed
returns-clause-sink_failed g c is =
    let same : c.in-Err-first_world.halt ≡ halt.SinkFailed = cc in
    let no : ⊥ = begins_as (config_of_line c.line.result.now) c.in-Err-first_world.halt halt.SinkFailed c.in-Err-first_world.ensures same in
    absurd no

pub returns-clause-may : goal.returns-clause-may
returns-clause-may g c = begins_may (config_of_line c.line.result.now) c.in-Err-first_world.halt c.in-Err-first_world.ensures
