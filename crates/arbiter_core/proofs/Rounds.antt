-- Rounds before and after what is recorded of them.
use Rattle.std.proofs.Common.{◌≡◌, ℕ, Bool, true, false, [], ◌∷◌, ◌++◌, Option, Some, None, refl, arith}
use Rattle.std.specs.Prelude.{◌==◌}
use Rattle.std.proofs.lemmas.Bool.Decides.{nat_tests}
use Rattle.ring_points.specs.declared.who.Who.{Who}
use Rattle.ring_rules.specs.Arbiters.{RoundClaims, Table, first_accuser, first_claimer, is_round_of, claim_kept, claim_settled, claimer_kept, kept_by, table_after}
use Rattle.keep_log.specs.Places.{is_once}
use Rattle.arbiter_core.specs.Laws.{SettledAgain}

round_itself : (victim : Who) (round : ℕ) (claimer : Who) → is_round_of victim round (victim, round, claimer) ≡ true
round_itself victim round claimer = grind (arith, nat_tests)

-- the first claimer in a table with one more claim
claimer_of_new : (claims : RoundClaims) (victim : Who) (round : ℕ) (claimer : Who) → first_claimer victim round claims ≡ None
    → first_claimer victim round (claims ++ (victim, round, claimer) ∷ []) ≡ Some claimer
claimer_of_new [] victim round claimer none = rw (round_itself victim round claimer) refl
claimer_of_new (c ∷ claims) victim round claimer none = by (is_round_of victim round c) refl (claimer_of_new claims victim round claimer)
  where
    by : (b : Bool) → is_round_of victim round c ≡ b
        → (first_claimer victim round claims ≡ None → first_claimer victim round (claims ++ (victim, round, claimer) ∷ []) ≡ Some claimer)
        → first_claimer victim round ((c ∷ claims) ++ (victim, round, claimer) ∷ []) ≡ Some claimer
    by true same rest = let some : Some c.2 ≡ None = rw same at none in absurd (cc)
    by false differs rest = let behind : first_claimer victim round claims ≡ None = rw differs at none in rw differs (rest behind)

pub claim_once : (table : Table) (claimer victim : Who) (round : ℕ) → is_once table (claim_kept table claimer victim round) ≡ true
unfolding claim_kept
claim_once table claimer victim round =
    by (first_accuser victim table.accusations) (first_claimer victim round table.claims) (round == 1) refl refl
  where
    by : (a b : Option Who) (is_first : Bool) → first_accuser victim table.accusations ≡ a → first_claimer victim round table.claims ≡ b
        → is_once table (claimer_kept claimer victim round a b is_first) ≡ true
    by None b is_first e f = refl
    by (Some x) (Some y) is_first e f = refl
    by (Some x) None true e f = refl
    by (Some x) None false e f = rw (e, f) refl

pub settled_again : SettledAgain
unfolding claim_kept claim_settled
settled_again table claimer victim again round =
    by (first_accuser victim table.accusations) (first_claimer victim round table.claims) (round == 1) refl refl refl
  where
    by : (a b : Option Who) (is_first : Bool) → first_accuser victim table.accusations ≡ a → first_claimer victim round table.claims ≡ b
        → (round == 1) ≡ is_first
        → claim_settled (table_after table (claimer_kept claimer victim round a b is_first)) again victim round ≡ kept_by claimer a b is_first
    by None b is_first e f g = rw e refl
    by (Some x) (Some y) true e f g = rw (e, g) refl
    by (Some x) None true e f g = rw (e, g) refl
    by (Some x) (Some y) false e f g = rw (e, f, g) refl
    by (Some x) None false e f g = rw (e, g, claimer_of_new table.claims victim round claimer f) refl
