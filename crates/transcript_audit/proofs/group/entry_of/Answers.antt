use Rattle.std.proofs.Common.{◌≡◌, ◌<◌, None, Some, length, sym, ap, ◌∙◌, subst}
use Rattle.std.proofs.lemmas.Bool.{eqb-true}
use Rattle.transcript_audit.specs.Groups.{entry_of}
use Rattle.transcript_audit.proofs.Telling.{entry_empty, entry_some, positive}
use Rattle.transcript_audit.proofs.group.entry_of.Goals as goal

pub returns-then-is_empty : goal.returns-then-is_empty
returns-then-is_empty c = λ g tells.
    let zero : length c.as_slice.result.now ≡ 0 = eqb-true (length c.as_slice.result.now) 0 (sym c.if-is_empty.ensures) in
    record { is = sym (entry_empty g.who g.reports (sym (ap length (c.as_slice.ensures.value ∙ tells.reports)) ∙ zero)) }

pub returns-in-Some : goal.returns-in-Some
returns-in-Some c = λ g tells.
    let some : 0 < length g.reports = subst (λ n. 0 < n) (ap length (c.as_slice.ensures.value ∙ tells.reports)) (positive (length c.as_slice.result.now) (sym c.if-is_empty.ensures)) in
    record {
      is =
          (λ i. Some (record { who = c.in-Some.who; reading = None; sent = (0, 0); reports = tells.reports i }))
          ∙ sym (entry_some c.in-Some.who g.reports some) ∙ sym (ap (λ w. entry_of w g.reports) (sym tells.who ∙ c.in-Some.is));
    }

pub returns-in-None : goal.returns-in-None
returns-in-None c = λ g tells. record { is = sym (ap (λ w. entry_of w g.reports) (sym tells.who ∙ c.in-None.is)) }
