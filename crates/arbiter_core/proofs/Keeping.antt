-- Whom a table keeps stays, whatever is recorded after.
use Rattle.std.proofs.Common.{◌≡◌, ℕ, Bool, true, false, cond, List, [], ◌∷◌, ◌++◌, Some}
use Rattle.ring_points.specs.declared.who.Who.{Who}
use Rattle.ring_points.specs.Whos.{same_who}
use Rattle.fabric_terms.specs.declared.record.Record.{Record}
use Rattle.fabric_terms.specs.declared.record.Record.TheVariants.{AccusedBy, ClaimedBy}
use Rattle.ring_rules.specs.Arbiters.{Accusations, RoundClaims, Table, first_accuser, first_claimer, is_round_of, table_with}
use Rattle.arbiter_core.specs.Laws.{KeptForGood}

accuser_stays : (table : Accusations) (more : Who × Who) (victim first : Who) → first_accuser victim table ≡ Some first
    → first_accuser victim (table ++ more ∷ []) ≡ Some first
accuser_stays [] more victim first h = absurd (cc)
accuser_stays (a ∷ table) more victim first h = by (same_who a.0 victim) h (accuser_stays table more victim first)
  where
    by : (b : Bool) → cond b (Some a.1) (first_accuser victim table) ≡ Some first
        → (first_accuser victim table ≡ Some first → first_accuser victim (table ++ more ∷ []) ≡ Some first)
        → cond b (Some a.1) (first_accuser victim (table ++ more ∷ [])) ≡ Some first
    by true h rest = h
    by false h rest = rest h

claimer_stays : (claims : RoundClaims) (more : Who × ℕ × Who) (victim : Who) (round : ℕ) (first : Who) → first_claimer victim round claims ≡ Some first
    → first_claimer victim round (claims ++ more ∷ []) ≡ Some first
claimer_stays [] more victim round first h = absurd (cc)
claimer_stays (c ∷ claims) more victim round first h = by (is_round_of victim round c) h (claimer_stays claims more victim round first)
  where
    by : (b : Bool) → cond b (Some c.2) (first_claimer victim round claims) ≡ Some first
        → (first_claimer victim round claims ≡ Some first → first_claimer victim round (claims ++ more ∷ []) ≡ Some first)
        → cond b (Some c.2) (first_claimer victim round (claims ++ more ∷ [])) ≡ Some first
    by true h rest = h
    by false h rest = rest h

accuser_with : (table : Table) (r : Record) (victim first : Who) → first_accuser victim table.accusations ≡ Some first
    → first_accuser victim (table_with table r).accusations ≡ Some first
accuser_with table (AccusedBy of by) victim first h = accuser_stays table.accusations (of, by) victim first h
accuser_with table _ victim first h = h

claimer_with : (table : Table) (r : Record) (victim : Who) (round : ℕ) (first : Who) → first_claimer victim round table.claims ≡ Some first
    → first_claimer victim round (table_with table r).claims ≡ Some first
claimer_with table (ClaimedBy of q by) victim round first h = claimer_stays table.claims (of, q, by) victim round first h
claimer_with table _ victim round first h = h

pub kept_for_good : (table : Table) (records : List Record) → KeptForGood table records
kept_for_good table [] = record { accuser = λ victim first h. h; claimer = λ victim round first h. h }
kept_for_good table (r ∷ rs) =
    let rest = kept_for_good (table_with table r) rs in
    record {
      accuser = λ victim first h. rest.accuser victim first (accuser_with table r victim first h);
      claimer = λ victim round first h. rest.claimer victim round first (claimer_with table r victim round first h);
    }
