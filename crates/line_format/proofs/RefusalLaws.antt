-- Why a node left, a command's first word and the reason of a refusal are read exactly where they are spelled.
use Rattle.std.proofs.Common.{lit<, ◌≡◌, ℕ, ⊎_elim, List, ◌++◌, Option, Some, None, All, arith, refl, ap, sym, ◌∙◌, rules}
use Rattle.std.specs.Prelude.{codes, decimal}
use Rattle.fabric_terms.specs.declared.report.Reason.{Reason}
use Rattle.fabric_terms.specs.declared.report.Reason.TheVariants as reason
use Rattle.fabric_terms.specs.declared.report.Verb.{Verb}
use Rattle.fabric_terms.specs.declared.report.Verb.TheVariants as verb
use Rattle.fabric_terms.specs.declared.report.Why.{Why}
use Rattle.fabric_terms.specs.declared.report.Why.TheVariants as why
use Rattle.fabric_terms.specs.Ranges.{IsByte, FitsReason}
use Rattle.text_fields.specs.Fields.{after_word, first_of, last, made}
use Rattle.text_fields.specs.Inverses.{IsField, IsRest, EndsAnyhow}
use Rattle.text_fields.specs.Numbers.{number_in}
use Rattle.text_fields.proofs.ChoiceLaws.{first_is}
use Rattle.text_fields.proofs.FieldLaws.{last_is, behind_found, behind_again, behind_other, apart}
use Rattle.text_fields.proofs.NumberLaws.{number_is}
use Rattle.text_fields.proofs.RestLaws.{made_found, made_again}
use Rattle.line_format.specs.Refusals.{why_text, all_whys, why_of, verb_text, all_verbs, verb_at, reason_word, reason_text, plain_reasons, reason_of, most_domain_count}

abbrev pub Anyone : {A : Type 0} → A → Type 0
Anyone x = Unit {0}

all_of_them : {A : Type 0} (xs : List A) → All Anyone xs
all_of_them xs k d lt = tt

why_again : (w : Why) (rest : List ℕ) → Anyone w → first_of why_text all_whys (why_text w ++ rest) ≡ Some (w, rest)
unfolding after_word
why_again why.Fence rest h = refl
why_again why.Lost rest h = refl
why_again why.Counters rest h = refl
why_again why.AccusedFull rest h = refl

pub why_is : IsRest why_of Anyone why_text
why_is = last_is (first_is why_text Anyone all_whys (all_of_them all_whys) why_again) tt

verb_again : (v : Verb) (rest : List ℕ) → Anyone v → first_of verb_text all_verbs (verb_text v ++ rest) ≡ Some (v, rest)
unfolding after_word
verb_again verb.Link rest h = refl
verb_again verb.Part rest h = refl
verb_again verb.Give rest h = refl
verb_again verb.Join rest h = refl
verb_again verb.Create rest h = refl
verb_again verb.Swap rest h = refl
verb_again verb.Heal rest h = refl
verb_again verb.Lose rest h = refl
verb_again verb.Write rest h = refl
verb_again verb.Resolve rest h = refl
verb_again verb.Names rest h = refl

pub verb_is : IsField verb_at Anyone verb_text EndsAnyhow
verb_is = first_is verb_text Anyone all_verbs (all_of_them all_verbs) verb_again

abbrev IsPlain : Reason → Type 0
IsPlain (reason.TooFew n) = ⊥
IsPlain _ = Unit {0}

plain_again : (r : Reason) (rest : List ℕ) → IsPlain r → first_of reason_word plain_reasons (reason_word r ++ rest) ≡ Some (r, rest)
unfolding after_word
plain_again reason.NotRouting rest h = refl
plain_again reason.Full rest h = refl
plain_again reason.Linked rest h = refl
plain_again reason.NotLinked rest h = refl
plain_again reason.Busy rest h = refl
plain_again reason.TooMany rest h = refl
plain_again reason.Empty rest h = refl
plain_again reason.NotManager rest h = refl
plain_again reason.Exists rest h = refl
plain_again reason.NoUnit rest h = refl
plain_again reason.NotMember rest h = refl
plain_again reason.NotPrimary rest h = refl
plain_again reason.NotReady rest h = refl
plain_again reason.Counters rest h = refl
plain_again (reason.TooFew n) rest h = absurd h

plain_fits : (r : Reason) → IsPlain r → FitsReason r × (reason_word r ≡ reason_text r)
plain_fits reason.NotRouting h = (tt, refl)
plain_fits reason.Full h = (tt, refl)
plain_fits reason.Linked h = (tt, refl)
plain_fits reason.NotLinked h = (tt, refl)
plain_fits reason.Busy h = (tt, refl)
plain_fits reason.TooMany h = (tt, refl)
plain_fits reason.Empty h = (tt, refl)
plain_fits reason.NotManager h = (tt, refl)
plain_fits reason.Exists h = (tt, refl)
plain_fits reason.NoUnit h = (tt, refl)
plain_fits reason.NotMember h = (tt, refl)
plain_fits reason.NotPrimary h = (tt, refl)
plain_fits reason.NotReady h = (tt, refl)
plain_fits reason.Counters h = (tt, refl)
plain_fits (reason.TooFew n) h = absurd h

all_plain : All IsPlain plain_reasons
all_plain = search rules

plain_is : IsRest (last (first_of reason_word plain_reasons)) IsPlain reason_word
plain_is = last_is (first_is reason_word IsPlain plain_reasons all_plain plain_again) tt

domains_are : IsRest (last (number_in 0 most_domain_count)) IsByte decimal
domains_are =
    let law = last_is (number_is 0 most_domain_count (lit< tt)) tt in
    record {
      found = λ bytes n e. let r = law.found bytes n e in (omega (arith, r.0.1), r.1);
      again = λ n h. law.again n (omega arith, omega (arith, h));
    }

toofew_found : (bytes : List ℕ) (r : Reason) → made reason.TooFew (last (number_in 0 most_domain_count)) bytes ≡ Some r
    → FitsReason r × (codes "toofew " ++ bytes ≡ reason_text r)
toofew_found = made_found domains_are FitsReason reason_text (codes "toofew ") reason.TooFew (λ n h. (h, refl))

no_toofew : (rest : List ℕ) → last (first_of reason_word plain_reasons) (codes "toofew " ++ rest) ≡ None
unfolding after_word
no_toofew rest = refl

abbrev toofew_of : List ℕ → Option Reason
toofew_of = made reason.TooFew (last (number_in 0 most_domain_count))

abbrev plain_of : List ℕ → Option Reason
plain_of = last (first_of reason_word plain_reasons)

pub reason_is : IsRest reason_of FitsReason reason_text
reason_is = record {
  found = λ bytes r e. ⊎_elim
      (λ few. let f = toofew_found few.0 r few.2 in (f.0, few.1 ∙ f.1))
      (λ one.
      let f = plain_is.found bytes r one in
      let p = plain_fits r f.0 in
      (p.0, f.1 ∙ p.1))
      (behind_found (codes "toofew ") toofew_of plain_of bytes r e);
  again = again;
}
  where
    plain : (r : Reason) → IsPlain r → reason_of (reason_text r) ≡ Some r
    plain r h =
        let word = reason_word r in
        let read = plain_is.again r h in
        ap reason_of (sym (plain_fits r h).1)
        ∙ (behind_other (codes "toofew ") toofew_of plain_of word (apart plain_of (codes "toofew ") word r read no_toofew) ∙ read)

    again : (r : Reason) → FitsReason r → reason_of (reason_text r) ≡ Some r
    again reason.NotRouting h = plain reason.NotRouting tt
    again reason.Full h = plain reason.Full tt
    again reason.Linked h = plain reason.Linked tt
    again reason.NotLinked h = plain reason.NotLinked tt
    again reason.Busy h = plain reason.Busy tt
    again reason.TooMany h = plain reason.TooMany tt
    again reason.Empty h = plain reason.Empty tt
    again reason.NotManager h = plain reason.NotManager tt
    again reason.Exists h = plain reason.Exists tt
    again reason.NoUnit h = plain reason.NoUnit tt
    again reason.NotMember h = plain reason.NotMember tt
    again reason.NotPrimary h = plain reason.NotPrimary tt
    again reason.NotReady h = plain reason.NotReady tt
    again reason.Counters h = plain reason.Counters tt
    again (reason.TooFew n) h = behind_again (codes "toofew ") toofew_of plain_of (decimal n) ∙ made_again domains_are reason.TooFew n h
