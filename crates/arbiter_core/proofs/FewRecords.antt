-- What is recorded of an accusation or of a claim: one record at most, and none of a register's.
use Rattle.std.proofs.Common.{◌≡◌, ℕ, ◌≤◌, Bool, true, false, List, [], ◌∷◌, Option, Some, None, refl, arith, length}
use Rattle.std.specs.Prelude.{◌==◌}
use Rattle.std.specs.Option.{option_to_list}
use Rattle.arbiter_core.specs.Arbiters.{first_of}
use Rattle.fabric_terms.specs.declared.record.Record.{Record}
use Rattle.ring_points.specs.declared.who.Who.{Who}
use Rattle.ring_rules.specs.Arbiters.{Table, accusation_kept, claim_kept, claimer_kept, first_accuser, first_claimer, first_kept}
use Rattle.unit_rules.specs.Registers.{Registers, registers_after}

pub accused_few : (table : Table) (accuser victim : Who) → length (accusation_kept table.accusations accuser victim) ≤ 1
unfolding accusation_kept
accused_few table accuser victim = by_firsts (first_accuser accuser table.accusations) (first_accuser victim table.accusations)
  where
    by_firsts : (x y : Option Who) → length (first_kept accuser victim x y) ≤ 1
    by_firsts None None = omega arith
    by_firsts None (Some y) = omega arith
    by_firsts (Some x) y = omega arith

pub claimed_few : (table : Table) (claimer victim : Who) (round : ℕ) → length (claim_kept table claimer victim round) ≤ 1
unfolding claim_kept
claimed_few table claimer victim round = by_firsts (first_accuser victim table.accusations) (first_claimer victim round table.claims) (round == 1)
  where
    by_firsts : (x y : Option Who) (b : Bool) → length (claimer_kept claimer victim round x y b) ≤ 1
    by_firsts None y b = omega arith
    by_firsts (Some x) (Some y) b = omega arith
    by_firsts (Some x) None true = omega arith
    by_firsts (Some x) None false = omega arith

pub accused_apart : (table : Table) (accuser victim : Who) (rs : Registers) → registers_after rs (accusation_kept table.accusations accuser victim) ≡ rs
unfolding accusation_kept
accused_apart table accuser victim rs = by_firsts (first_accuser accuser table.accusations) (first_accuser victim table.accusations)
  where
    by_firsts : (x y : Option Who) → registers_after rs (first_kept accuser victim x y) ≡ rs
    by_firsts None None = refl
    by_firsts None (Some y) = refl
    by_firsts (Some x) y = refl

pub claimed_apart : (table : Table) (claimer victim : Who) (round : ℕ) (rs : Registers) → registers_after rs (claim_kept table claimer victim round) ≡ rs
unfolding claim_kept
claimed_apart table claimer victim round rs = by_firsts (first_accuser victim table.accusations) (first_claimer victim round table.claims) (round == 1)
  where
    by_firsts : (x y : Option Who) (b : Bool) → registers_after rs (claimer_kept claimer victim round x y b) ≡ rs
    by_firsts None y b = refl
    by_firsts (Some x) (Some y) b = refl
    by_firsts (Some x) None true = refl
    by_firsts (Some x) None false = refl

-- a list of one record at most is that of its first
pub first_is : (records : List Record) → length records ≤ 1 → option_to_list (first_of records) ≡ records
first_is [] h = refl
first_is (r ∷ []) h = refl
first_is (r ∷ x ∷ xs) h = absurd (omega arith)
