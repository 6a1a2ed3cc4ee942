-- The verdict on the transcript of a safe run.
use Rattle.std.proofs.Common.{◌≡◌, inl, inr, List, length, Option, None, Ok, Result, sym, ap, subst, ◌∙◌}
use Rattle.std.specs.Prelude.{ℕ, reverse}
use Rattle.edge_io.specs.Edge.{Grew, GrewByFront, HasRisen}
use Rattle.fabric_status.specs.declared.status.Refusal.{Refusal}
use Rattle.fabric_status.specs.declared.status.Status.{Status}
use Rattle.fabric_status.specs.declared.status.Status.TheVariants as status
use Rattle.fabric_terms.specs.Primaries.{Safe}
use Rattle.fabric_terms.specs.Runs.{Run}
use Rattle.run_audit.specs.Breaches.{IsVerdict}
use Rattle.run_audit.specs.declared.breach.Breach.{Breach}
use Rattle.run_audit.proofs.OneVerdict.{one_verdict}
use Rattle.transcript_audit.specs.Audits.{IsAnswer, IsAnswerTo, IsJudged, IsVerdictLine, Writes, WritesFront, answer, fault, nothing}
use Rattle.transcript_audit.specs.Groups.{Group, run_along}
use Rattle.transcript_audit.specs.Transcript.{transcript_of}
use Rattle.transcript_audit.specs.Verdicts.{verdict_line}
use Rattle.trace_audit.specs.Laws.{SafeRecordingsAreSafe}
use Rattle.trace_audit.specs.Recordings.{LinesRise, groups_of_run, trace_of}
use Rattle.trace_audit.specs.Traced.{IsAnsweredSafe, WritesSafe, WritesSafeFront}
use Rattle.trace_audit.proofs.Hearing.{safe_heard}
use Rattle.trace_audit.proofs.Ordering.{heard, one_order, run_heard}
use Rattle.trace_audit.proofs.Reading.{recordings_are_read}

judged_safe : (run : Run) (moments : ℕ) (breach : Option Breach) → LinesRise run → Safe run → IsJudged (groups_of_run run) moments breach →
    (breach ≡ None) × (moments ≡ length run)
judged_safe run moments breach rise safe judged =
    let order = one_order run judged.lines rise judged.order in
    let along : run_along (groups_of_run run) (reverse judged.lines) ≡ heard run = ap (run_along (groups_of_run run)) order.0 ∙ run_heard run rise in
    let verdict : IsVerdict (heard run) breach = subst (λ r. IsVerdict r breach) along judged.verdict in
    (one_verdict (heard run) breach None verdict (safe_heard run safe), sym judged.count ∙ order.1)

-- what is written, by the only answer
module _ (text : List ℕ) (moments : ℕ) (ends : (ended : Status) (answer : List ℕ) → IsAnswer text ended answer → ended ≡ status.Ok)
    (says : (ended : Status) (answer : List ℕ) → IsAnswer text ended answer → answer ≡ verdict_line None moments) where
  front : (failed : Type 0) (old new : Option (List ℕ)) → WritesFront text failed old new → WritesSafeFront moments failed old new
  front failed old new (nothing grew) = inl grew
  front failed old new (answer ended said is grew) = inr (inl (subst (λ t. GrewByFront old new t) (says ended said is) grew))
  front failed old new (fault cause grew) = inr (inr (cause, grew))

  writes : (ended : Status) (failed : Type 0) (old new : Option (List ℕ)) → Writes ended text failed old new → WritesSafe ended moments failed old new
  writes status.Ok failed old new w = subst (λ t. Grew old new t) (says status.Ok w.text w.answer) w.grew
  writes status.OutOfMemory failed old new w = front failed old new w
  writes status.WriteFault failed old new w = front failed old new w
  writes status.ReadFault failed old new w = w
  writes (status.BadConfig e) failed old new w = let bad = ends (status.BadConfig e) w.text w.answer in absurd (cc (bad))
  writes (status.BadLine n) failed old new w = let bad = ends (status.BadLine n) w.text w.answer in absurd (cc (bad))
  writes (status.DriftBroken n) failed old new w = let bad = ends (status.DriftBroken n) w.text w.answer in absurd (cc (bad))
  writes (status.NoSuch n) failed old new w = let bad = ends (status.NoSuch n) w.text w.answer in absurd (cc (bad))
  writes (status.TooLarge n) failed old new w = let bad = ends (status.TooLarge n) w.text w.answer in absurd (cc (bad))
  writes status.Usage failed old new w = let bad = ends status.Usage w.text w.answer in absurd (cc (bad))
  writes status.KeepFault failed old new w = let bad = ends status.KeepFault w.text w.answer in absurd (cc (bad))
  writes status.LinkFault failed old new w = let bad = ends status.LinkFault w.text w.answer in absurd (cc (bad))
  writes (status.ClockBack former latter) failed old new w = let bad = ends (status.ClockBack former latter) w.text w.answer in absurd (cc (bad))
  writes (status.Left why) failed old new w = let bad = ends (status.Left why) w.text w.answer in absurd (cc (bad))
  writes (status.BadKeep i) failed old new w = let bad = ends (status.BadKeep i) w.text w.answer in absurd (cc (bad))
  writes status.TableFull failed old new w = let bad = ends status.TableFull w.text w.answer in absurd (cc (bad))

module _ (text : List ℕ) (run : Run) (rise : LinesRise run) (safe : Safe run) (read : transcript_of text ≡ Ok (groups_of_run run)) where
  good : (ended : Status) (answer : List ℕ) → IsAnswer text ended answer → IsAnswerTo (Ok (groups_of_run run)) ended answer
  good ended reply is = subst (λ (o : Result (List Group) Refusal). IsAnswerTo o ended reply) read is

  ends_well : (ended : Status) (answer : List ℕ) → IsAnswer text ended answer → ended ≡ status.Ok
  ends_well ended reply is = (good ended reply is).0

  says_safe : (ended : Status) (answer : List ℕ) → IsAnswer text ended answer → answer ≡ verdict_line None (length run)
  says_safe ended reply is =
      let v : IsVerdictLine (groups_of_run run) reply = (good ended reply is).1 in
      let judged = judged_safe run v.moments v.breach rise safe v.judged in
      v.line ∙ (ap (λ b. verdict_line b v.moments) judged.0 ∙ ap (verdict_line None) judged.1)

  pub answered_safe : IsAnsweredSafe text (length run)
  answered_safe = record { ends = ends_well; says = says_safe; writes = λ ended before after old new w. writes text (length run) ends_well says_safe ended (HasRisen before after) old new w }

pub safe_recordings_are_safe : SafeRecordingsAreSafe
safe_recordings_are_safe run h limits safe = answered_safe (trace_of run) run h.rise safe (recordings_are_read run h limits)
