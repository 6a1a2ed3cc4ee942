use Rattle.std.proofs.Common.{sym, subst, ◌∙◌}
use Rattle.transcript_audit.specs.Places.{IsPlaced}
use Rattle.transcript_audit.specs.Said.{said_of}
use Rattle.transcript_audit.specs.Transcript.{placed_if}
use Rattle.transcript_audit.proofs.Reading.{read_bad, read_ignored, read_placed}
use Rattle.transcript_audit.proofs.transcript.take_line.Goals as goal

pub returns-then-is_ignored-clause-read : goal.returns-then-is_ignored-clause-read
returns-then-is_ignored-clause-read c = λ bytes ls r here keeps.
    read_ignored bytes c.args.line.now ls r c.args.places.now c.args.number (sym c.is_ignored.ensures ∙ c.if-is_ignored.true) keeps

pub returns-then-placed-clause-read : goal.returns-then-placed-clause-read
returns-then-placed-clause-read c = λ bytes ls r here keeps.
    let i = sym c.is_ignored.ensures ∙ c.if-is_ignored.false in
    read_placed bytes c.args.line.now ls r c.take_words.new.places c.args.number i
    (subst (λ b. IsPlaced bytes ls c.take_words.new.places b (placed_if (said_of c.args.line.now) r)) c.if-placed.true (c.in_ok-placed.ensures.placed bytes ls r i here keeps))

pub returns-else-placed-clause-read : goal.returns-else-placed-clause-read
returns-else-placed-clause-read c = λ bytes ls r here keeps.
    let i = sym c.is_ignored.ensures ∙ c.if-is_ignored.false in
    read_bad bytes c.args.line.now ls r c.take_words.new.places c.args.number i
    (subst (λ b. IsPlaced bytes ls c.take_words.new.places b (placed_if (said_of c.args.line.now) r)) c.if-placed.false (c.in_ok-placed.ensures.placed bytes ls r i here keeps))
