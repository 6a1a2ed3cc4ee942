-- Whom an arbitrator's table names is in range; and it stays so by records that are.
use Rattle.std.proofs.Common.{ℕ, Bool, true, false, ◌&&◌, ◌==◌, List, [], ◌∷◌, Option, Some, None, IsTrue}
use Rattle.std.specs.Prelude.{All, IfSome, if◌then◌else◌}
use Rattle.std.proofs.lemmas.Bool.{and_from, and_parts}
use Rattle.std.proofs.lemmas.List.Elements.{All-cons, All-head, All-nil, All-push, All-tail}
use Rattle.fabric_terms.specs.declared.message.Body.TheVariants as body
use Rattle.fabric_terms.specs.declared.record.Record.{Record}
use Rattle.fabric_terms.specs.declared.record.Record.TheVariants.{AccusedBy, ClaimedBy}
use Rattle.fabric_terms.specs.Fields.{is_round, is_who}
use Rattle.ring_points.specs.declared.who.Who.{Who}
use Rattle.ring_points.specs.Whos.{same_who}
use Rattle.ring_rules.specs.Arbiters.{Accusations, RoundClaims, Table, accusation_kept, claim_answer, claim_kept, claim_settled, claimer_kept, first_accuser, first_claimer, first_kept, is_round_of, kept_by, no_table, table_after, table_with}
use Rattle.frames_fit.specs.Formats.{in_format}
use Rattle.frames_fit.specs.Tables.{AccusationInRange, ClaimInRange, RecordInRange, TableInRange}
use Rattle.frames_fit.proofs.Facts.{kept_format, who_addressed}
use Rattle.frames_fit.proofs.Going.{AllInFormat}

-- Whom the table names.

abbrev Named : Option Who → Type 0
Named o = IfSome o (λ w. IsTrue (is_who w))

accuser_named : (victim : Who) (es : Accusations) → All AccusationInRange es → Named (first_accuser victim es)
accuser_named victim [] h = tt
accuser_named victim (e ∷ es) h = by_test (same_who e.0 victim) (accuser_named victim es (All-tail AccusationInRange e es h))
  where
    by_test : (b : Bool) → Named (first_accuser victim es) → Named (if b then Some e.1 else first_accuser victim es)
    by_test true rest = (and_parts (is_who e.0) (is_who e.1) (All-head AccusationInRange e es h)).1
    by_test false rest = rest

claimer_named : (victim : Who) (round : ℕ) (cs : RoundClaims) → All ClaimInRange cs → Named (first_claimer victim round cs)
claimer_named victim round [] h = tt
claimer_named victim round (c ∷ cs) h = by_test (is_round_of victim round c) (claimer_named victim round cs (All-tail ClaimInRange c cs h))
  where
    by_test : (b : Bool) → Named (first_claimer victim round cs) → Named (if b then Some c.2 else first_claimer victim round cs)
    by_test true rest = (and_parts (is_who c.0 && is_round c.1) (is_who c.2) (All-head ClaimInRange c cs h)).1
    by_test false rest = rest

kept_named : (claimer : Who) (about claimed : Option Who) (is_first : Bool) → IsTrue (is_who claimer) → Named about → Named claimed →
    Named (kept_by claimer about claimed is_first)
kept_named claimer None claimed is_first h k l = tt
kept_named claimer (Some first) claimed true h k l = k
kept_named claimer (Some first) (Some other) false h k l = l
kept_named claimer (Some first) None false h k l = h

-- A table after records.

pub no_table_in_range : TableInRange no_table
no_table_in_range = record { accusations = All-nil AccusationInRange; claims = All-nil ClaimInRange }

module _ (Other : Record → Type 0) where
  with_in_range : (t : Table) (r : Record) → TableInRange t → RecordInRange Other r → TableInRange (table_with t r)
  with_in_range t (AccusedBy victim first) h k =
      record { accusations = All-push AccusationInRange t.accusations (victim, first) h.accusations k; claims = h.claims }
  with_in_range t (ClaimedBy victim round claimer) h k =
      record { accusations = h.accusations; claims = All-push ClaimInRange t.claims (victim, round, claimer) h.claims k }
  with_in_range t r h k = h

  pub after_in_range : (t : Table) (rs : List Record) → TableInRange t → All (RecordInRange Other) rs → TableInRange (table_after t rs)
  after_in_range t [] h k = h
  after_in_range t (r ∷ rs) h k =
      after_in_range (table_with t r) rs (with_in_range t r h (All-head (RecordInRange Other) r rs k)) (All-tail (RecordInRange Other) r rs k)

-- What is recorded and answered to a node in range.
module _ (Other : Record → Type 0) (t : Table) (h : TableInRange t) (from victim : Who) (who : IsTrue (is_who from)) (named : IsTrue (is_who victim)) where
  first_recorded : (about about_victim : Option Who) → All (RecordInRange Other) (first_kept from victim about about_victim)
  first_recorded None None =
      All-cons (RecordInRange Other) (AccusedBy victim from) [] (and_from (is_who victim) (is_who from) named who) (All-nil (RecordInRange Other))
  first_recorded None (Some z) = All-nil (RecordInRange Other)
  first_recorded (Some z) o = All-nil (RecordInRange Other)

  pub accusation_recorded : All (RecordInRange Other) (accusation_kept t.accusations from victim)
  unfolding accusation_kept
  accusation_recorded = first_recorded (first_accuser from t.accusations) (first_accuser victim t.accusations)

  module _ (round : ℕ) (counted : IsTrue (is_round round)) where
    claimer_recorded : (about claimed : Option Who) (is_first : Bool) → All (RecordInRange Other) (claimer_kept from victim round about claimed is_first)
    claimer_recorded None claimed is_first = All-nil (RecordInRange Other)
    claimer_recorded (Some first) (Some other) is_first = All-nil (RecordInRange Other)
    claimer_recorded (Some first) None true = All-nil (RecordInRange Other)
    claimer_recorded (Some first) None false =
        All-cons (RecordInRange Other) (ClaimedBy victim round from) []
        (and_from (is_who victim && is_round round) (is_who from) (and_from (is_who victim) (is_round round) named counted) who) (All-nil (RecordInRange Other))

    pub claim_recorded : All (RecordInRange Other) (claim_kept t from victim round)
    unfolding claim_kept
    claim_recorded = claimer_recorded (first_accuser victim t.accusations) (first_claimer victim round t.claims) (round == 1)

    answered_by : (o : Option Who) → Named o → AllInFormat (claim_answer from victim round o)
    answered_by None k = All-nil (λ m. IsTrue (in_format m))
    answered_by (Some kept) k =
        All-cons (λ m. IsTrue (in_format m)) (from, body.Kept victim round kept) []
        (kept_format from (who_addressed from who) victim round kept named counted k) (All-nil (λ m. IsTrue (in_format m)))

    pub claim_answered : AllInFormat (claim_answer from victim round (claim_settled t from victim round))
    unfolding claim_settled
    claim_answered =
        answered_by (kept_by from (first_accuser victim t.accusations) (first_claimer victim round t.claims) (round == 1))
        (kept_named from (first_accuser victim t.accusations) (first_claimer victim round t.claims) (round == 1) who
        (accuser_named victim t.accusations h.accusations) (claimer_named victim round t.claims h.claims))
