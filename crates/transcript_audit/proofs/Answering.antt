-- What is answered, and written, at each status.
use Rattle.std.proofs.Common.{◌≡◌, ◌≢◌, ℕ, true, List, [], Option, Some, Result, Ok, Err, refl, ap, sym, subst, ◌∙◌, ⊎_elim}
use Rattle.std.proofs.lemmas.List.{append-nil}
use Rattle.edge_io.specs.Edge.{Grew, HasRisen}
use Rattle.fabric_status.specs.Codes.{status_of}
use Rattle.fabric_status.specs.Faults.{fault_line}
use Rattle.fabric_status.specs.Writes.{Wrote}
use Rattle.fabric_status.specs.declared.status.Refusal.{Refusal}
use Rattle.fabric_status.specs.declared.status.Refusal.TheVariants.{BadConfig, BadLine, DriftBroken, NoSuch, TooLarge}
use Rattle.fabric_status.specs.declared.status.Status.{Status}
use Rattle.fabric_status.specs.declared.status.Status.TheVariants as status
use Rattle.transcript_audit.specs.declared.transcript.Transcript.{Transcript}
use Rattle.transcript_audit.specs.declared.transcript.Transcript.TheVariants.{Good, Refused}
use Rattle.transcript_audit.specs.Audits.{IsAnswer, IsAnswerTo, IsEnd, IsVerdictLine, Writes, WritesFront, WritesAnswer, nothing, answer, fault}
use Rattle.transcript_audit.specs.Places.{LeavesNone}
use Rattle.transcript_audit.specs.Groups.{Group}
use Rattle.transcript_audit.specs.Statuses.{MayRead, may_end_audit}
use Rattle.transcript_audit.specs.Transcript.{transcript_of}

pub answered_refusal : (bytes : List ℕ) (f : Refusal) (ended : Status) (text : List ℕ) → transcript_of bytes ≡ Err f → ended ≡ status_of f → text ≡ fault_line (status_of f) → IsAnswer bytes ended text
answered_refusal bytes f ended text e is line = subst (λ o. IsAnswerTo o ended text) (sym e) (is, line)

pub answered_verdict : (bytes : List ℕ) (groups : List Group) (text : List ℕ) → transcript_of bytes ≡ Ok groups → IsVerdictLine groups text → IsAnswer bytes status.Ok text
answered_verdict bytes groups text e line = subst (λ o. IsAnswerTo o status.Ok text) (sym e) (refl, line)

-- nothing is a front of anything
pub nothing_written : (bytes : List ℕ) (failed : Type 0) (held : Option (List ℕ)) → WritesFront bytes failed held held
nothing_written bytes failed held = nothing (λ text e. e ∙ ap Some (sym (append-nil text)))

pub wrote_fault : (bytes : List ℕ) (failed : Type 0) (ended : Status) (old new : Option (List ℕ)) (before now : ℕ) → failed → Wrote status.ReadFault (fault_line status.ReadFault) ended old new before now → Writes ended bytes failed old new
wrote_fault bytes failed ended old new before now cause wrote =
    ⊎_elim
    (λ whole. subst (λ s. Writes s bytes failed old new) (sym whole.0) whole.1)
    (λ short. ⊎_elim
    (λ memory. subst (λ s. Writes s bytes failed old new) (sym memory.0) (fault cause memory.1))
    (λ sink. subst (λ s. Writes s bytes failed old new) (sym sink.0) (fault cause sink.1))
    short)
    wrote

module _ (bytes : List ℕ) (failed : Type 0) (ended : Status) (text : List ℕ) (old new : Option (List ℕ)) (is : IsAnswer bytes ended text) where
  as_answer : (s : Status) → ended ≡ s → Grew old new text → WritesAnswer bytes s old new
  as_answer s e grew = record { text = text; answer = subst (λ x. IsAnswer bytes x text) e is; grew = grew }

  whole : Grew old new text → Writes ended bytes failed old new
  whole grew = by (transcript_of bytes) is
    where
      by : (o : Result (List Group) Refusal) → IsAnswerTo o ended text → Writes ended bytes failed old new
      by (Ok groups) a = subst (λ s. Writes s bytes failed old new) (sym a.0) (as_answer status.Ok a.0 grew)
      by (Err (BadConfig e)) a = subst (λ s. Writes s bytes failed old new) (sym a.0) (as_answer (status.BadConfig e) a.0 grew)
      by (Err (BadLine n)) a = subst (λ s. Writes s bytes failed old new) (sym a.0) (as_answer (status.BadLine n) a.0 grew)
      by (Err (DriftBroken n)) a = subst (λ s. Writes s bytes failed old new) (sym a.0) (as_answer (status.DriftBroken n) a.0 grew)
      by (Err (NoSuch n)) a = subst (λ s. Writes s bytes failed old new) (sym a.0) (as_answer (status.NoSuch n) a.0 grew)
      by (Err (TooLarge n)) a = subst (λ s. Writes s bytes failed old new) (sym a.0) (as_answer (status.TooLarge n) a.0 grew)

  pub wrote_answer : (last : Status) (before now : ℕ) → Wrote ended text last old new before now → Writes last bytes failed old new
  wrote_answer last before now wrote =
      ⊎_elim
      (λ all. subst (λ s. Writes s bytes failed old new) (sym all.0) (whole all.1))
      (λ short. ⊎_elim
      (λ memory. subst (λ s. Writes s bytes failed old new) (sym memory.0) (answer ended text is memory.1))
      (λ sink. subst (λ s. Writes s bytes failed old new) (sym sink.0) (answer ended text is sink.1))
      short)
      wrote

-- how an answer ends: never with the status of a device
pub record EndsWell (ended : Status) : Type 0 where
  pub source : ended ≢ status.ReadFault
  pub sink : ended ≢ status.WriteFault

ok_well : EndsWell status.Ok
ok_well = record { source = λ e. cc (e); sink = λ e. cc (e) }

refusal_well : (f : Refusal) → EndsWell (status_of f)
refusal_well (BadConfig x) = record { source = λ e. cc (e); sink = λ e. cc (e) }
refusal_well (BadLine x) = record { source = λ e. cc (e); sink = λ e. cc (e) }
refusal_well (DriftBroken x) = record { source = λ e. cc (e); sink = λ e. cc (e) }
refusal_well (NoSuch x) = record { source = λ e. cc (e); sink = λ e. cc (e) }
refusal_well (TooLarge x) = record { source = λ e. cc (e); sink = λ e. cc (e) }

not_good : (f : Refusal) → status_of f ≡ status.Ok → ⊥
not_good (BadConfig x) e = cc (e)
not_good (BadLine x) e = cc (e)
not_good (DriftBroken x) e = cc (e)
not_good (NoSuch x) e = cc (e)
not_good (TooLarge x) e = cc (e)

-- the answer to a transcript, written
module _ (t : Transcript) (ended last : Status) (text : List ℕ) (old new : Option (List ℕ)) (before now : ℕ) (is : IsEnd t ended) (wrote : Wrote ended text last old new before now) where
  well : EndsWell ended
  well = by t is
    where
      by : (u : Transcript) → IsEnd u ended → EndsWell ended
      by (Good bytes places) e = subst (λ s. EndsWell s) (sym e) ok_well
      by (Refused f) e = subst (λ s. EndsWell s) (sym e) (refusal_well f)

  ends_as : (s : Status) → last ≡ s → (status.OutOfMemory ≡ s → ⊥) → (status.WriteFault ≡ s → ⊥) → ended ≡ s
  ends_as s e memory sink =
      ⊎_elim
      (λ all. sym all.0 ∙ e)
      (λ short. ⊎_elim
      (λ m. absurd (memory (sym m.0 ∙ e)))
      (λ f. absurd (sink (sym f.0 ∙ e)))
      short)
      wrote

  pub may_end : MayRead t → may_end_audit last ≡ true
  may_end may = ⊎_elim (λ all. ap may_end_audit all.0 ∙ by t is may) (λ short. ⊎_elim (λ m. ap may_end_audit m.0) (λ f. ap may_end_audit f.0) short) wrote
    where
      by : (u : Transcript) → IsEnd u ended → MayRead u → may_end_audit ended ≡ true
      by (Good bytes places) e m = ap may_end_audit e
      by (Refused f) e m = ap may_end_audit e ∙ m

  pub no_read_fault : last ≢ status.ReadFault
  no_read_fault e = well.source (ends_as status.ReadFault e (λ x. cc (x)) (λ x. cc (x)))

  pub sink_failed : last ≡ status.WriteFault → HasRisen before now
  sink_failed e =
      ⊎_elim
      (λ all. absurd (well.sink (sym all.0 ∙ e)))
      (λ short. ⊎_elim
      (λ m. let bad : status.OutOfMemory ≡ status.WriteFault = sym m.0 ∙ e in absurd (cc (bad)))
      (λ f. f.2)
      short)
      wrote

  pub all_read : (left : Option (List ℕ)) → LeavesNone t left → last ≡ status.Ok → left ≡ Some []
  all_read left none e = by t is none
    where
      good : ended ≡ status.Ok
      good = ends_as status.Ok e (λ x. cc (x)) (λ x. cc (x))

      by : (u : Transcript) → IsEnd u ended → LeavesNone u left → left ≡ Some []
      by (Good bytes places) end n = n
      by (Refused f) end n = absurd (not_good f (sym end ∙ good))
