use Rattle.std.proofs.Common.{◌≡◌, ◌++◌, ℕ, List, Bool, Result, Ok, Err, OnErr, arith, ap, sym, subst, ◌∙◌}
use Rattle.schedule_replay.specs.Follows.{TakesNext, TookNone}
use Rattle.schedule_rules.specs.declared.halt.Halt.{Halt}
use Rattle.schedule_rules.specs.declared.halt.Halt.TheVariants as halt
use Rattle.schedule_replay.proofs.Along.{all_of, along_first, along_took, along_sent, short_memory, short_sink, at_halt, at_last}
use Rattle.schedule_replay.specs.Waits.{FrontOf}
use Rattle.schedule_replay.proofs.Waits.{waits_along, none_waits}
use Rattle.schedule_replay.proofs.Statuses.{ends_may}
use Rattle.schedule_replay.proofs.run.take_rest.Goals as goal

pub loop-number-init : goal.loop-number-init
loop-number-init g c = record {
  along = λ config at. along_first g.T.RunObserver.telling config c.args.world.now (g.T.RunObserver.knows c.args.teller.now) c.args.reader.now.lines.waiting (g.S.Source.left c.args.source.now) (g.K.Sink.held c.args.sink.now) c.args.text.now.items at.0 at.1 c.requires.heading;
  source = omega arith;
  sink = omega arith;
}

pub take_next-requires-clause-world : goal.take_next-requires-clause-world
take_next-requires-clause-world g c =
    let first = c.requires.first in
    let along = c.loop-number.invariant.along first.0 first.1 in
    (first.0, along.history, along.at.0)

pub returns-in-Err-Failed-clause-halts : goal.returns-in-Err-Failed-clause-halts
returns-in-Err-Failed-clause-halts g c config bytes at e =
    let along = c.loop-number.invariant.along config at in
    short_sink g.T.RunObserver.telling config c.loop-number.world (g.T.RunObserver.knows c.loop-number.teller) c.loop-number.number c.args.reader.now.lines.waiting (g.S.Source.left c.args.source.now) c.loop-number.reader.lines.waiting (g.S.Source.left c.loop-number.source) (g.K.Sink.held c.args.sink.now) (g.K.Sink.held c.loop-number.sink) (g.K.Sink.held c.send_due.new.sink) c.loop-number.text.items along c.in-Err-Failed.ensures.sent bytes e

pub returns-in-Err-OutOfMemory-clause-halts : goal.returns-in-Err-OutOfMemory-clause-halts
returns-in-Err-OutOfMemory-clause-halts g c config bytes at e =
    let along = c.loop-number.invariant.along config at in
    short_sink g.T.RunObserver.telling config c.loop-number.world (g.T.RunObserver.knows c.loop-number.teller) c.loop-number.number c.args.reader.now.lines.waiting (g.S.Source.left c.args.source.now) c.loop-number.reader.lines.waiting (g.S.Source.left c.loop-number.source) (g.K.Sink.held c.args.sink.now) (g.K.Sink.held c.loop-number.sink) (g.K.Sink.held c.send_due.new.sink) c.loop-number.text.items along c.in-Err-OutOfMemory.ensures.sent bytes e

-- the sink has a front of what waited, and the rest is dropped
pub returns-in-Err-OutOfMemory-clause-waits : goal.returns-in-Err-OutOfMemory-clause-waits
returns-in-Err-OutOfMemory-clause-waits g c config bytes at e is =
    let along = c.loop-number.invariant.along config at in
    none_waits g.T.RunObserver.telling (all_of config (c.args.reader.now.lines.waiting ++ bytes)) (g.K.Sink.held c.args.sink.now) (g.K.Sink.held c.send_due.new.sink) c.send_due.new.text.items c.in-Err-OutOfMemory.ensures.refused (short_sink g.T.RunObserver.telling config c.loop-number.world (g.T.RunObserver.knows c.loop-number.teller) c.loop-number.number c.args.reader.now.lines.waiting (g.S.Source.left c.args.source.now) c.loop-number.reader.lines.waiting (g.S.Source.left c.loop-number.source) (g.K.Sink.held c.args.sink.now) (g.K.Sink.held c.loop-number.sink) (g.K.Sink.held c.send_due.new.sink) c.loop-number.text.items along c.in-Err-OutOfMemory.ensures.sent bytes e)

pub returns-in-Err-clause-halts : goal.returns-in-Err-clause-halts
returns-in-Err-clause-halts g c config bytes at e =
    let along = c.loop-number.invariant.along config at in
    let sent = along_sent g.T.RunObserver.telling config c.loop-number.world (g.T.RunObserver.knows c.loop-number.teller) c.loop-number.number c.args.reader.now.lines.waiting (g.S.Source.left c.args.source.now) c.loop-number.reader.lines.waiting (g.S.Source.left c.loop-number.source) (g.K.Sink.held c.args.sink.now) (g.K.Sink.held c.loop-number.sink) (g.K.Sink.held c.send_due.new.sink) c.loop-number.text.items c.send_due.new.text.items along c.in-Ok.ensures.sent in
    at_halt g.T.RunObserver.telling config c.loop-number.world c.take_next.new.world (g.T.RunObserver.knows c.loop-number.teller) (g.T.RunObserver.knows c.take_next.new.teller) c.loop-number.number c.args.reader.now.lines.waiting (g.S.Source.left c.args.source.now) c.loop-number.reader.lines.waiting (g.S.Source.left c.loop-number.source) (g.K.Sink.held c.args.sink.now) (g.K.Sink.held c.send_due.new.sink) c.send_due.new.text.items c.take_next.new.text.items c.take_next.new.reader.lines.waiting (g.S.Source.left c.take_next.new.source)
    c.in-Err.halt sent (c.in-Err.ensures.next config sent.history sent.at) bytes e

pub returns-in-Err-clause-waits : goal.returns-in-Err-clause-waits
returns-in-Err-clause-waits g c config bytes at e is =
    let along = c.loop-number.invariant.along config at in
    let sent = along_sent g.T.RunObserver.telling config c.loop-number.world (g.T.RunObserver.knows c.loop-number.teller) c.loop-number.number c.args.reader.now.lines.waiting (g.S.Source.left c.args.source.now) c.loop-number.reader.lines.waiting (g.S.Source.left c.loop-number.source) (g.K.Sink.held c.args.sink.now) (g.K.Sink.held c.loop-number.sink) (g.K.Sink.held c.send_due.new.sink) c.loop-number.text.items c.send_due.new.text.items along c.in-Ok.ensures.sent in
    let same : c.in-Err.halt ≡ halt.OutOfMemory = cc in
    subst (λ (t : List ℕ). FrontOf g.T.RunObserver.telling (all_of config (c.args.reader.now.lines.waiting ++ bytes)) (g.K.Sink.held c.args.sink.now) (g.K.Sink.held c.send_due.new.sink) t) (sym (c.in-Err.ensures.short (ap Err same)))
    (waits_along g.T.RunObserver.telling config c.loop-number.world (g.T.RunObserver.knows c.loop-number.teller) c.loop-number.number c.args.reader.now.lines.waiting (g.S.Source.left c.args.source.now) c.loop-number.reader.lines.waiting (g.S.Source.left c.loop-number.source) (g.K.Sink.held c.args.sink.now) (g.K.Sink.held c.send_due.new.sink) c.send_due.new.text.items sent bytes e)

pub returns-in-Ok-false-clause-halts : goal.returns-in-Ok-false-clause-halts
returns-in-Ok-false-clause-halts g c config bytes at e =
    let along = c.loop-number.invariant.along config at in
    let sent = along_sent g.T.RunObserver.telling config c.loop-number.world (g.T.RunObserver.knows c.loop-number.teller) c.loop-number.number c.args.reader.now.lines.waiting (g.S.Source.left c.args.source.now) c.loop-number.reader.lines.waiting (g.S.Source.left c.loop-number.source) (g.K.Sink.held c.args.sink.now) (g.K.Sink.held c.loop-number.sink) (g.K.Sink.held c.send_due.new.sink) c.loop-number.text.items c.send_due.new.text.items along c.in-Ok.ensures.sent in
    let none : TookNone config sent.history c.take_next.new.world (g.T.RunObserver.knows c.take_next.new.teller) c.send_due.new.text.items c.take_next.new.text.items c.loop-number.reader.lines.waiting (g.S.Source.left c.loop-number.source) (g.S.Source.left c.take_next.new.source) =
    subst (λ (b : Bool). TakesNext g.T.RunObserver.telling config sent.history c.loop-number.number (Ok b) c.take_next.new.world (g.T.RunObserver.knows c.take_next.new.teller) c.send_due.new.text.items c.take_next.new.text.items c.loop-number.reader.lines.waiting (g.S.Source.left c.loop-number.source) c.take_next.new.reader.lines.waiting (g.S.Source.left c.take_next.new.source)) c.in-Ok-false.field-0-test (c.in-Ok-false.ensures.next config sent.history sent.at) in
    at_last g.T.RunObserver.telling config c.loop-number.world c.take_next.new.world (g.T.RunObserver.knows c.loop-number.teller) (g.T.RunObserver.knows c.take_next.new.teller) c.loop-number.number c.args.reader.now.lines.waiting (g.S.Source.left c.args.source.now) c.loop-number.reader.lines.waiting (g.S.Source.left c.loop-number.source) (g.K.Sink.held c.args.sink.now) (g.K.Sink.held c.send_due.new.sink) c.send_due.new.text.items c.take_next.new.text.items c.end_lines.new.text.items (g.S.Source.left c.take_next.new.source) c.end_lines.result sent none (c.end_lines.ensures.ends config sent.history none.at) bytes e

pub returns-in-Ok-false-clause-waits : goal.returns-in-Ok-false-clause-waits
returns-in-Ok-false-clause-waits g c config bytes at e is =
    let along = c.loop-number.invariant.along config at in
    let sent = along_sent g.T.RunObserver.telling config c.loop-number.world (g.T.RunObserver.knows c.loop-number.teller) c.loop-number.number c.args.reader.now.lines.waiting (g.S.Source.left c.args.source.now) c.loop-number.reader.lines.waiting (g.S.Source.left c.loop-number.source) (g.K.Sink.held c.args.sink.now) (g.K.Sink.held c.loop-number.sink) (g.K.Sink.held c.send_due.new.sink) c.loop-number.text.items c.send_due.new.text.items along c.in-Ok.ensures.sent in
    let none : TookNone config sent.history c.take_next.new.world (g.T.RunObserver.knows c.take_next.new.teller) c.send_due.new.text.items c.take_next.new.text.items c.loop-number.reader.lines.waiting (g.S.Source.left c.loop-number.source) (g.S.Source.left c.take_next.new.source) =
    subst (λ (b : Bool). TakesNext g.T.RunObserver.telling config sent.history c.loop-number.number (Ok b) c.take_next.new.world (g.T.RunObserver.knows c.take_next.new.teller) c.send_due.new.text.items c.take_next.new.text.items c.loop-number.reader.lines.waiting (g.S.Source.left c.loop-number.source) c.take_next.new.reader.lines.waiting (g.S.Source.left c.take_next.new.source)) c.in-Ok-false.field-0-test (c.in-Ok-false.ensures.next config sent.history sent.at) in
    let same : c.end_lines.new.text.items ≡ c.send_due.new.text.items = subst (λ (r : Result (Unit {0}) Halt). OnErr r (c.end_lines.new.text.items ≡ c.take_next.new.text.items)) is (c.end_lines.ensures.short config sent.history none.at) ∙ none.text in
    subst (λ (t : List ℕ). FrontOf g.T.RunObserver.telling (all_of config (c.args.reader.now.lines.waiting ++ bytes)) (g.K.Sink.held c.args.sink.now) (g.K.Sink.held c.send_due.new.sink) t) (sym same)
    (waits_along g.T.RunObserver.telling config c.loop-number.world (g.T.RunObserver.knows c.loop-number.teller) c.loop-number.number c.args.reader.now.lines.waiting (g.S.Source.left c.args.source.now) c.loop-number.reader.lines.waiting (g.S.Source.left c.loop-number.source) (g.K.Sink.held c.args.sink.now) (g.K.Sink.held c.send_due.new.sink) c.send_due.new.text.items sent bytes e)

pub loop-number-preserved : goal.loop-number-preserved
loop-number-preserved g c = record {
  along = λ config at.
      let along = c.loop-number.invariant.along config at in
      let sent = along_sent g.T.RunObserver.telling config c.loop-number.world (g.T.RunObserver.knows c.loop-number.teller) c.loop-number.number c.args.reader.now.lines.waiting (g.S.Source.left c.args.source.now) c.loop-number.reader.lines.waiting (g.S.Source.left c.loop-number.source) (g.K.Sink.held c.args.sink.now) (g.K.Sink.held c.loop-number.sink) (g.K.Sink.held c.send_due.new.sink) c.loop-number.text.items c.send_due.new.text.items along c.in-Ok.ensures.sent in
      along_took g.T.RunObserver.telling config c.loop-number.world c.take_next.new.world (g.T.RunObserver.knows c.loop-number.teller) (g.T.RunObserver.knows c.take_next.new.teller) c.loop-number.number c.args.reader.now.lines.waiting (g.S.Source.left c.args.source.now) c.loop-number.reader.lines.waiting (g.S.Source.left c.loop-number.source) c.take_next.new.reader.lines.waiting (g.S.Source.left c.take_next.new.source) (g.K.Sink.held c.args.sink.now) (g.K.Sink.held c.send_due.new.sink) c.send_due.new.text.items c.take_next.new.text.items c.in-Ok-true.field-0 c.in-Ok-true.field-0-test sent (c.in-Ok-true.ensures.next config sent.history sent.at);
  source = omega (arith, c.loop-number.invariant.source, c.take_next.ensures.later);
  sink = omega (arith, c.loop-number.invariant.sink, c.send_due.ensures.cause.later);
}

pub returns-clause-halts : goal.returns-clause-halts
returns-clause-halts g c config bytes at e =
    short_memory g.T.RunObserver.telling config c.loop-number.world (g.T.RunObserver.knows c.loop-number.teller) c.loop-number.number c.args.reader.now.lines.waiting (g.S.Source.left c.args.source.now) c.loop-number.reader.lines.waiting (g.S.Source.left c.loop-number.source) (g.K.Sink.held c.args.sink.now) (g.K.Sink.held c.loop-number.sink) c.loop-number.text.items (c.loop-number.invariant.along config at) bytes e

pub returns-clause-waits : goal.returns-clause-waits
returns-clause-waits g c config bytes at e is =
    waits_along g.T.RunObserver.telling config c.loop-number.world (g.T.RunObserver.knows c.loop-number.teller) c.loop-number.number c.args.reader.now.lines.waiting (g.S.Source.left c.args.source.now) c.loop-number.reader.lines.waiting (g.S.Source.left c.loop-number.source) (g.K.Sink.held c.args.sink.now) (g.K.Sink.held c.loop-number.sink) c.loop-number.text.items (c.loop-number.invariant.along config at) bytes e

pub returns-in-Err-clause-may : goal.returns-in-Err-clause-may
returns-in-Err-clause-may g c =
    let config = c.requires.first.0 in
    let along = c.loop-number.invariant.along config c.requires.first.1 in
    let sent = along_sent g.T.RunObserver.telling config c.loop-number.world (g.T.RunObserver.knows c.loop-number.teller) c.loop-number.number c.args.reader.now.lines.waiting (g.S.Source.left c.args.source.now) c.loop-number.reader.lines.waiting (g.S.Source.left c.loop-number.source) (g.K.Sink.held c.args.sink.now) (g.K.Sink.held c.loop-number.sink) (g.K.Sink.held c.send_due.new.sink) c.loop-number.text.items c.send_due.new.text.items along c.in-Ok.ensures.sent in
    c.in-Err.ensures.may config sent.history sent.at

pub returns-in-Ok-false-clause-may : goal.returns-in-Ok-false-clause-may
returns-in-Ok-false-clause-may g c =
    let config = c.requires.first.0 in
    let along = c.loop-number.invariant.along config c.requires.first.1 in
    let sent = along_sent g.T.RunObserver.telling config c.loop-number.world (g.T.RunObserver.knows c.loop-number.teller) c.loop-number.number c.args.reader.now.lines.waiting (g.S.Source.left c.args.source.now) c.loop-number.reader.lines.waiting (g.S.Source.left c.loop-number.source) (g.K.Sink.held c.args.sink.now) (g.K.Sink.held c.loop-number.sink) (g.K.Sink.held c.send_due.new.sink) c.loop-number.text.items c.send_due.new.text.items along c.in-Ok.ensures.sent in
    let none : TookNone config sent.history c.take_next.new.world (g.T.RunObserver.knows c.take_next.new.teller) c.send_due.new.text.items c.take_next.new.text.items c.loop-number.reader.lines.waiting (g.S.Source.left c.loop-number.source) (g.S.Source.left c.take_next.new.source) =
    subst (λ (b : Bool). TakesNext g.T.RunObserver.telling config sent.history c.loop-number.number (Ok b) c.take_next.new.world (g.T.RunObserver.knows c.take_next.new.teller) c.send_due.new.text.items c.take_next.new.text.items c.loop-number.reader.lines.waiting (g.S.Source.left c.loop-number.source) c.take_next.new.reader.lines.waiting (g.S.Source.left c.take_next.new.source)) c.in-Ok-false.field-0-test (c.in-Ok-false.ensures.next config sent.history sent.at) in
    ends_may c.end_lines.result g.T.RunObserver.telling config sent.history c.take_next.new.text.items c.end_lines.new.text.items (c.end_lines.ensures.ends config sent.history none.at)
