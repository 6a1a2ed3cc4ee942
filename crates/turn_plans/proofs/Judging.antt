-- One line of a plan, and what it leads to.
use Rattle.std.proofs.Common.{◌≡◌, ℕ, ◌+◌, ◌<◌, ◌≤◌, Bool, true, false, List, [], ◌∷◌, ◌++◌, length, Result, Err, refl, ap, sym, ◌∙◌, arith, nat_lt}
use Rattle.std.specs.Prelude.{◌||◌}
use Rattle.std.proofs.lemmas.Bool.Decides.{nat_tests}
use Rattle.edge_io.specs.declared.endpoint.Endpoint.{Endpoint}
use Rattle.fabric_status.specs.declared.status.Refusal.{Refusal}
use Rattle.fabric_status.specs.declared.status.Refusal.TheVariants.{TooLarge}
use Rattle.fabric_terms.specs.declared.config.FabricConfig.{FabricConfig}
use Rattle.source_lines.specs.Lines.{most_line, most_lines}
use Rattle.turn_rules.specs.declared.order.Order.{Order}
use Rattle.turn_plans.specs.Plans.{judge_from}
use Rattle.turn_plans.specs.PlanVerdicts.{Ignored, Ordered, PlanVerdict, Refused, line_verdict, unless_large}
use Rattle.turn_plans.specs.declared.crew.Crew.{Crew}

-- what lines are judged for
pub record Given : Type 0 where
  pub crew : Crew
  pub config : FabricConfig
  pub actors : List Endpoint
  pub turns : ℕ

abbrev pub judge : Given → List Order → ℕ → ℕ → List (List ℕ) → Result (List Order) Refusal
judge g = judge_from g.crew g.config g.actors g.turns

abbrev pub verdict : Given → ℕ → ℕ → List ℕ → PlanVerdict
verdict g = line_verdict g.crew g.config g.actors g.turns

abbrev pub judge_on : Given → List Order → ℕ → ℕ → List (List ℕ) → PlanVerdict → Result (List Order) Refusal
judge_on g orders least n ls Ignored = judge g orders least (n + 1) ls
judge_on g orders least n ls (Ordered o) = judge g (orders ++ o ∷ []) o.turn (n + 1) ls
judge_on g orders least n ls (Refused refusal) = Err refusal

pub judge_line : (g : Given) (orders : List Order) (least n : ℕ) (l : List ℕ) (ls : List (List ℕ)) → judge g orders least n (l ∷ ls) ≡ judge_on g orders least n ls (verdict g least n l)
judge_line g orders least n l ls = by_verdict (verdict g least n l)
  where
    by_verdict : (v : PlanVerdict) → (elim v [ Ignored ↦ judge g orders least (n + 1) ls | Ordered o ↦ judge g (orders ++ o ∷ []) o.turn (n + 1) ls | Refused refusal ↦ Err refusal ]) ≡ judge_on g orders least n ls v
    by_verdict Ignored = refl
    by_verdict (Ordered o) = refl
    by_verdict (Refused refusal) = refl

-- a line with this verdict
pub judged_so : (g : Given) (orders : List Order) (least n : ℕ) (l : List ℕ) (ls : List (List ℕ)) (v : PlanVerdict) → verdict g least n l ≡ v → judge g orders least n (l ∷ ls) ≡ judge_on g orders least n ls v
judged_so g orders least n l ls v is = judge_line g orders least n l ls ∙ ap (judge_on g orders least n ls) is

large : (g : Given) (least n : ℕ) (l : List ℕ) → most_line < length l → verdict g least n l ≡ Refused (TooLarge n)
unfolding line_verdict
large g least n l long =
    let t : nat_lt most_line (length l) ≡ true = grind (arith, nat_tests) in
    rw t refl

-- a line that is too long is refused
pub long_line : (g : Given) (orders : List Order) (least n : ℕ) (l : List ℕ) (ls : List (List ℕ)) → most_line < length l → judge g orders least n (l ∷ ls) ≡ Err (TooLarge n)
long_line g orders least n l ls long = judged_so g orders least n l ls (Refused (TooLarge n)) (large g least n l long)

-- a line that is not refused is one of those that there may be
pub within : (g : Given) (least n : ℕ) (l : List ℕ) (v : PlanVerdict) → verdict g least n l ≡ v → ((refusal : Refusal) → v ≡ Refused refusal → ⊥) → n ≤ most_lines
unfolding line_verdict
within g least n l v is good = by_tests (nat_lt most_line (length l)) (nat_lt most_lines n) refl is
  where
    by_tests : (a b : Bool) → nat_lt most_lines n ≡ b → unless_large g.crew g.config g.actors g.turns least n l (a || b) ≡ v → n ≤ most_lines
    by_tests a false past e = grind (arith, nat_tests)
    by_tests true true past e = absurd (good (TooLarge n) (sym e))
    by_tests false true past e = absurd (good (TooLarge n) (sym e))
