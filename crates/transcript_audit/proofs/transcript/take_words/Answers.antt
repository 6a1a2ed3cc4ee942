use Rattle.std.proofs.Common.{sym, subst}
use Rattle.std.specs.Prelude.{IfOk}
use Rattle.transcript_audit.specs.Places.{IsPlaced}
use Rattle.transcript_audit.specs.Said.{said_of}
use Rattle.transcript_audit.specs.Transcript.{placed_if}
use Rattle.transcript_audit.proofs.Placing.{said_is}
use Rattle.transcript_audit.proofs.transcript.take_words.Goals as goal

pub returns-in-Ok-clause-placed : goal.returns-in-Ok-clause-placed
returns-in-Ok-clause-placed c = λ bytes ls r i here keeps.
    let s = said_is c.in-Ok.said (said_of c.args.line.now) c.in-Ok.ensures in
    subst (λ o. IfOk c.place.result (λ ok. IsPlaced bytes ls c.place.new.self ok (placed_if o r))) (sym s.1) (c.place.ensures.placed bytes c.args.line.now ls r s.0 i s.1 s.2 here keeps)
