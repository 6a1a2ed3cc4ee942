-- What a call answers is what the rules record and send.
use Rattle.std.proofs.Common.{◌≡◌, ◌≤◌, ℕ, Bool, true, false, List, [], ◌∷◌, Option, Some, None, refl, sym, ap, subst, ◌∙◌, length}
use Rattle.std.specs.Prelude.{◌==◌, Ok, Err}
use Rattle.std.specs.Option.{option_to_list}
use Rattle.arbiter_core.specs.Arbiters.{Arbiter, Outcome, accuse_call, claim_call, claim_told, first_of, is_full_for, kept_where_full, question_call, with_kept}
use Rattle.arbiter_core.specs.declared.answer.Answer.{Answer}
use Rattle.arbiter_core.specs.declared.answer.Answer.TheVariants.{Reply, Nothing}
use Rattle.fabric_terms.specs.declared.message.Body.{Body}
use Rattle.fabric_terms.specs.declared.message.Body.TheVariants as body
use Rattle.fabric_terms.specs.declared.record.Record.{Record}
use Rattle.ring_points.specs.declared.who.Who.{Who}
use Rattle.ring_rules.specs.Arbiters.{accusation_kept, accusation_ruled, claim_answer, claim_kept, claim_settled, claimer_kept, first_accuser, first_claimer, kept_by}
use Rattle.unit_rules.specs.Deeds.{Acted, Send, frames_of, records_of}
use Rattle.unit_rules.specs.Registers.{Registers, Reply as UnitReply, question_answered, question_received, replied}
use Rattle.arbiter_core.proofs.FewRecords.{accused_few, claimed_few, first_is}
use Rattle.arbiter_core.proofs.RegisterReplies.{AnswersSo, LeavesTable, answers_so}

-- these records are kept and these frames posted, as they are to be, and there was a place for the records
pub record Agreed (a : Arbiter) (recorded : List Record) (owed : List (Who × Body)) (kept : List Record) (posts : List (Who × Body)) (n : Arbiter) : Type 0 where
  pub now : n ≡ with_kept recorded a
  pub records : kept ≡ recorded
  pub sent : posts ≡ owed
  pub room : is_full_for recorded a ≡ false

-- the call answers what is to be recorded and sent; it is refused exactly where there is no place for the records
abbrev pub Agrees : Arbiter → List Record → List (Who × Body) → Outcome Answer → Type 0
Agrees a records sent (Ok Nothing, n) = Agreed a records sent [] [] n
Agrees a records sent (Ok (Reply kept to said), n) = Agreed a records sent (option_to_list kept) ((to, said) ∷ []) n
Agrees a records sent (Err e, n) = is_full_for records a ≡ true

-- a row of partitions, in the same words
abbrev pub AgreesWith : Arbiter → Acted Registers → Outcome Answer → Type 0
AgreesWith a acted o = Agrees a (records_of acted.deeds) (frames_of acted.deeds) o

pub nothing_agrees : (a : Arbiter) → Agrees a [] [] (Ok Nothing, a)
nothing_agrees a = record { now = refl; records = refl; sent = refl; room = refl }

module _ (asker : Who) (a : Arbiter) where
  accused_by_test : (records : List Record) → length records ≤ 1 → (said : Body) (b : Bool) → is_full_for records a ≡ b
      → Agrees a records ((asker, said) ∷ []) (kept_where_full b records (Reply (first_of records) asker said) a)
  accused_by_test records few said true e = e
  accused_by_test records few said false e = record { now = refl; records = first_is records few; sent = refl; room = e }

  pub accuse_agrees : (victim : Who)
      → Agrees a (accusation_kept a.table.accusations asker victim) ((asker, body.Ruled victim (accusation_ruled a.table.accusations asker victim)) ∷ []) (accuse_call asker victim a)
  accuse_agrees victim =
      let records = accusation_kept a.table.accusations asker victim in
      accused_by_test records (accused_few a.table asker victim) (body.Ruled victim (accusation_ruled a.table.accusations asker victim)) (is_full_for records a) refl

  claimed_by_test : (victim : Who) (round : ℕ) (records : List Record) → length records ≤ 1 → (o : Option Who) → (o ≡ None → records ≡ []) → (b : Bool) → is_full_for records a ≡ b
      → Agrees a records (claim_answer asker victim round o) (kept_where_full b records (claim_told (first_of records) asker victim round o) a)
  claimed_by_test victim round records few o none true e = e
  claimed_by_test victim round records few None none false e = record { now = refl; records = sym (none refl); sent = refl; room = e }
  claimed_by_test victim round records few (Some kept) none false e = record { now = refl; records = first_is records few; sent = refl; room = e }

  -- where nobody is kept of a round, nothing is recorded
  none_recorded : (victim : Who) (round : ℕ) → claim_settled a.table asker victim round ≡ None → claim_kept a.table asker victim round ≡ []
  unfolding claim_settled claim_kept
  none_recorded victim round e = by_firsts (first_accuser victim a.table.accusations) (first_claimer victim round a.table.claims) (round == 1) e
    where
      by_firsts : (x y : Option Who) (b : Bool) → kept_by asker x y b ≡ None → claimer_kept asker victim round x y b ≡ []
      by_firsts None y b f = refl
      by_firsts (Some x) (Some y) true f = refl
      by_firsts (Some x) None true f = refl
      by_firsts (Some x) (Some y) false f = refl
      by_firsts (Some x) None false f = absurd (cc)

  pub claim_agrees : (victim : Who) (round : ℕ)
      → Agrees a (claim_kept a.table asker victim round) (claim_answer asker victim round (claim_settled a.table asker victim round)) (claim_call asker victim round a)
  claim_agrees victim round =
      let records = claim_kept a.table asker victim round in
      claimed_by_test victim round records (claimed_few a.table asker victim round)
      (claim_settled a.table asker victim round) (none_recorded victim round) (is_full_for records a) refl

  -- a register's answer, by what is recorded before it
  replied_by : (kept : Option Record) (said : Body) → LeavesTable kept → frames_of (Send asker said ∷ []) ≡ (asker, said) ∷ []
      → AgreesWith a (replied asker a.registers (Some (record { kept = kept; body = said }))) (question_call asker (Some (record { kept = kept; body = said })) a)
  replied_by None said leaves other = record { now = refl; records = refl; sent = sym other; room = refl }
  replied_by (Some r) said leaves other = by (is_full_for (r ∷ []) a) refl
    where
      by : (b : Bool) → is_full_for (r ∷ []) a ≡ b
          → AgreesWith a (replied asker a.registers (Some (record { kept = Some r; body = said }))) (kept_where_full b (r ∷ []) (Reply (Some r) asker said) a)
      by true e = ap (λ (rs : List Record). is_full_for rs a) leaves.0 ∙ e
      by false e = record {
        now = ap (λ (rs : List Record). with_kept rs a) (sym leaves.0);
        records = sym leaves.0;
        sent = sym other;
        room = ap (λ (rs : List Record). is_full_for rs a) leaves.0 ∙ e;
      }

  replied_so : (o : Option UnitReply) → AnswersSo o → AgreesWith a (replied asker a.registers o) (question_call asker o a)
  replied_so None h = nothing_agrees a
  replied_so (Some r) h = replied_by r.kept r.body h.kept (h.body asker)

  pub question_agrees : (said again : Body) → said ≡ again → AgreesWith a (question_received said asker a.registers) (question_call asker (question_answered again asker a.registers) a)
  question_agrees said again same =
      subst (λ (b : Body). AgreesWith a (question_received said asker a.registers) (question_call asker (question_answered b asker a.registers) a)) same
      (replied_so (question_answered said asker a.registers) (answers_so said asker a.registers))
