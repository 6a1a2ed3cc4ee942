use Rattle.std.proofs.Common.{◌≤◌, ◌+◌, ◌++◌, Option, Some, Ok, length, length-append, arith, ap, subst, ◌∙◌}
use Rattle.fabric_status.specs.declared.status.Refusal.{Refusal}
use Rattle.line_format.specs.Lines.{lines_of}
use Rattle.source_lines.specs.Reading.{IsLineOf, TakesOf}
use Rattle.source_lines.specs.declared.next_line.NextLine.{NextLine}
use Rattle.transcript_audit.specs.Places.{IsRead, IsTaken}
use Rattle.transcript_audit.specs.Transcript.{line_read}
use Rattle.transcript_audit.proofs.Following.{follows_end, follows_first, follows_long, next_here, next_keeps, next_refused, next_taken, none_right, taken_short, within_more}
use Rattle.transcript_audit.proofs.transcript.read_transcript.Goals as goal

pub loop-number-init : goal.loop-number-init
loop-number-init g c = record {
  few = omega arith;
  short = omega (arith, ap length c.new-text.ensures.items);
  within = λ line at e. let low = c.new-places.ensures.within line at e in omega arith;
  follows = λ bytes e. follows_first bytes _ _ _ _ c.new-text.ensures.items c.in-Ok.ensures.0 e (c.new-places.ensures.keeps bytes (lines_of bytes));
  later = omega arith;
}

pub take_next-requires-clause-line : goal.take_next-requires-clause-line
take_next-requires-clause-line g c =
    let line = subst (λ (k : NextLine). IsLineOf (Ok k) 65536 c.next.new.self.line) c.in-Ok-Line.field-0-is c.in-Ok-Line.ensures.line in
    line.1

pub returns-in-Ok-End-clause-read : goal.returns-in-Ok-End-clause-read
returns-in-Ok-End-clause-read g c bytes e =
    let follows = c.loop-number.invariant.follows bytes e in
    let taken = subst (λ (k : NextLine). TakesOf (Ok k) 65536 c.loop-number.reader (g.S.Source.left c.loop-number.source) c.next.new.self (g.S.Source.left c.next.new.source)) c.in-Ok-End.field-0-is c.in-Ok-End.ensures.taken in
    let read = taken follows.rest follows.is_left in (
      follows_end bytes c.loop-number.reader.waiting c.loop-number.text (g.S.Source.left c.loop-number.source) c.loop-number.places c.loop-number.number follows read.2.0,
      read.1 ∙ ap Some (none_right c.next.new.self.waiting read.0 read.2.1),
    )

pub returns-in-Ok-TooLong-clause-read : goal.returns-in-Ok-TooLong-clause-read
returns-in-Ok-TooLong-clause-read g c bytes e =
    let follows = c.loop-number.invariant.follows bytes e in
    let taken = subst (λ (k : NextLine). TakesOf (Ok k) 65536 c.loop-number.reader (g.S.Source.left c.loop-number.source) c.next.new.self (g.S.Source.left c.next.new.source)) c.in-Ok-TooLong.field-0-is c.in-Ok-TooLong.ensures.taken in
    let read = taken follows.rest follows.is_left in
    (follows_long bytes c.loop-number.text.items c.loop-number.reader.waiting (g.S.Source.left c.loop-number.source) c.loop-number.places c.loop-number.number follows read.2.0, tt)

pub returns-in-Ok-Some-clause-read : goal.returns-in-Ok-Some-clause-read
returns-in-Ok-Some-clause-read g c bytes e =
    let follows = c.loop-number.invariant.follows bytes e in
    let taken = subst (λ (k : NextLine). TakesOf (Ok k) 65536 c.loop-number.reader (g.S.Source.left c.loop-number.source) c.next.new.self (g.S.Source.left c.next.new.source)) c.in-Ok-Line.field-0-is c.in-Ok-Line.ensures.taken in
    let next = taken follows.rest follows.is_left in
    let here = next_here bytes c.loop-number.text.items c.loop-number.reader.waiting (g.S.Source.left c.loop-number.source) (g.S.Source.left c.next.new.source) c.loop-number.places c.loop-number.number c.next.new.self follows next.0 next.2.0 next.3 in
    let keeps = next_keeps bytes c.loop-number.text.items c.loop-number.reader.waiting (g.S.Source.left c.loop-number.source) (g.S.Source.left c.next.new.source) c.loop-number.places c.loop-number.number c.next.new.self follows next.0 next.2.0 next.3 in
    let read = subst (λ (f : Option Refusal). IsRead bytes (lines_of (c.next.new.self.waiting ++ next.0)) c.take_next.new.places f (line_read c.loop-number.number (length c.loop-number.text.items + length c.next.new.self.whole) c.next.new.self.line follows.along.reading)) c.in-Ok-Some.field-0-is (c.in-Ok-Some.ensures.read bytes (lines_of (c.next.new.self.waiting ++ next.0)) follows.along.reading here keeps) in
    (next_refused bytes c.loop-number.text.items c.loop-number.reader.waiting (g.S.Source.left c.loop-number.source) (g.S.Source.left c.next.new.source) c.loop-number.places c.loop-number.number c.next.new.self follows next.0 next.2.0 next.3 c.take_next.new.places c.in-Ok-Some.refusal read, tt)

pub loop-number-preserved : goal.loop-number-preserved
loop-number-preserved g c =
    let short = taken_short c.loop-number.number c.next.new.self c.loop-number.text.items c.take_next.new.text.items (subst (λ (f : Option Refusal). IsTaken f c.loop-number.number c.next.new.self c.loop-number.text.items c.take_next.new.text.items) c.in-Ok-None.field-0-is c.in-Ok-None.ensures.taken) in
    let longer : length c.loop-number.text.items ≤ length c.take_next.new.text.items = omega (arith, ap length short.2 ∙ length-append c.loop-number.text.items c.next.new.self.whole) in
    record {
      few = short.0;
      short = short.1;
      within = c.in-Ok-None.ensures.within (length c.take_next.new.text.items) longer (within_more (length c.loop-number.text.items) (length c.take_next.new.text.items) c.loop-number.places longer c.loop-number.invariant.within);
      follows = λ bytes e.
          let follows = c.loop-number.invariant.follows bytes e in
          let taken = subst (λ (k : NextLine). TakesOf (Ok k) 65536 c.loop-number.reader (g.S.Source.left c.loop-number.source) c.next.new.self (g.S.Source.left c.next.new.source)) c.in-Ok-Line.field-0-is c.in-Ok-Line.ensures.taken in
          let next = taken follows.rest follows.is_left in
          let here = next_here bytes c.loop-number.text.items c.loop-number.reader.waiting (g.S.Source.left c.loop-number.source) (g.S.Source.left c.next.new.source) c.loop-number.places c.loop-number.number c.next.new.self follows next.0 next.2.0 next.3 in
          let keeps = next_keeps bytes c.loop-number.text.items c.loop-number.reader.waiting (g.S.Source.left c.loop-number.source) (g.S.Source.left c.next.new.source) c.loop-number.places c.loop-number.number c.next.new.self follows next.0 next.2.0 next.3 in
          let read = subst (λ (f : Option Refusal). IsRead bytes (lines_of (c.next.new.self.waiting ++ next.0)) c.take_next.new.places f (line_read c.loop-number.number (length c.loop-number.text.items + length c.next.new.self.whole) c.next.new.self.line follows.along.reading)) c.in-Ok-None.field-0-is (c.in-Ok-None.ensures.read bytes (lines_of (c.next.new.self.waiting ++ next.0)) follows.along.reading here keeps) in
          next_taken bytes c.loop-number.text.items c.loop-number.reader.waiting (g.S.Source.left c.loop-number.source) (g.S.Source.left c.next.new.source) c.loop-number.places c.loop-number.number c.next.new.self follows next.0 next.2.0 next.3 c.take_next.new.places c.take_next.new.text.items read short.2 next.1;
      later = omega (arith, c.loop-number.invariant.later, c.next.ensures.cause.later);
    }
