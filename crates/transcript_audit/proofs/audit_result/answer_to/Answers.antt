use Rattle.std.proofs.Common.{List, ℕ, length, sym, subst, ◌∙◌, ap, ◌++◌}
use Rattle.transcript_audit.specs.Audits.{IsJudged}
use Rattle.transcript_audit.specs.Places.{Finds, IsTranscript, Stand, Stands}
use Rattle.transcript_audit.specs.Transcript.{transcript_of}
use Rattle.transcript_audit.specs.Verdicts.{verdict_line}
use Rattle.transcript_audit.specs.declared.transcript.Transcript.{Transcript}
use Rattle.transcript_audit.proofs.Answering.{answered_refusal, answered_verdict}
use Rattle.transcript_audit.proofs.Judging.{good_is, refused_is}
use Rattle.transcript_audit.proofs.Telling.{on_each}
use Rattle.transcript_audit.proofs.Within.{within_places}
use Rattle.transcript_audit.proofs.audit_result.answer_to.Goals as goal

pub judge-requires : goal.judge-requires
judge-requires c =
    let stand = subst (λ (t : Transcript). Stands t) c.in-Good.is c.requires in
    within_places (length c.deref.result.now) c.in-Good.places c.sort.new.self c.in_ok-sort-in-Good.ensures.places (subst (λ (bytes : List ℕ). Stand bytes c.in-Good.places) (sym c.deref.ensures.value) stand)

pub returns-in-Refused-clause-answer : goal.returns-in-Refused-clause-answer
returns-in-Refused-clause-answer c bytes is =
    let e = refused_is bytes c.in-Refused.refusal (transcript_of bytes) (subst (λ t. IsTranscript bytes t (transcript_of bytes)) c.in-Refused.is is) in
    on_each c.refused.result (λ a ends. answered_refusal bytes c.in-Refused.refusal a.status a.text.items e ends.0 ends.1) c.refused.ensures

pub returns-in_ok-push_verdict-in-Good-clause-answer : goal.returns-in_ok-push_verdict-in-Good-clause-answer
returns-in_ok-push_verdict-in-Good-clause-answer c bytes is =
    let g = good_is bytes c.in-Good.bytes c.in-Good.places (transcript_of bytes) (subst (λ t. IsTranscript bytes t (transcript_of bytes)) c.in-Good.is is) in
    let sorted = c.in_ok-sort-in-Good.ensures.sorted g.0 bytes g.3 in
    let same = c.deref.ensures.value ∙ g.2 in
    let finds = subst (λ (b : List ℕ). Finds b c.sort.new.self g.0) (sym same) sorted.0 in
    answered_verdict bytes g.0 c.push_verdict.new.text.items g.1 (record {
      moments = c.count.result;
      breach = c.in_ok-breach-in-Good.breach;
      judged = subst (λ n. IsJudged g.0 n c.in_ok-breach-in-Good.breach) (sym c.count.ensures) (c.in_ok-breach-in-Good.ensures g.0 finds sorted.1);
      line = c.in_ok-push_verdict-in-Good.ensures ∙ ap (λ l. l ++ verdict_line c.in_ok-breach-in-Good.breach c.count.result) c.new-text.ensures.items;
    })
