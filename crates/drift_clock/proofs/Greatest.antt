-- The extreme of a list by a comparison is its greatest by an excess, where the two agree.
use Rattle.std.proofs.Common.{◌≡◌, ℕ, ◌<◌, ◌≤◌, Bool, true, false, List, [], ◌∷◌, refl, arith, if◌then◌else◌}
use Rattle.std.proofs.lemmas.Bool.Decides.{nat_tests}
use Rattle.std.specs.List.{AllByRecursion}
use Rattle.drift_clock.specs.Within.{Pair}
use Rattle.drift_clock.specs.Extremes.{extreme}
use Rattle.drift_clock.specs.Refusals.{greatest}

-- of two pairs that have P, the one that exceeds has more excess, or both have none
pub record Orders (P : Pair → Type 0) (exceeds : Pair → Pair → Bool) (excess : Pair → ℕ) : Type 0 where
  pub above : (a b : Pair) → P a → P b → exceeds a b ≡ true → excess b ≤ excess a
  pub strictly : (a b : Pair) → P a → P b → exceeds a b ≡ true → 0 < excess a → excess b < excess a
  pub below : (a b : Pair) → P a → P b → exceeds a b ≡ false → excess a ≤ excess b

-- no pair has more excess than e, and where e has any it is the greatest
pub record IsGreatest (excess : Pair → ℕ) (newest : Pair) (older : List Pair) (e : Pair) : Type 0 where
  pub all : AllByRecursion (λ p. excess p ≤ excess e) (newest ∷ older)
  pub most : excess (greatest excess newest older) ≤ excess e
  pub same : 0 < excess e → greatest excess newest older ≡ e

pub weaker : (P Q : Pair → Type 0) (pairs : List Pair) → ((p : Pair) → P p → Q p) → AllByRecursion P pairs → AllByRecursion Q pairs
weaker P Q [] f all = tt
weaker P Q (p ∷ ps) f all = (f p all.0, weaker P Q ps f all.1)

pub extreme-keeps : (P : Pair → Type 0) (exceeds : Pair → Pair → Bool) (newest : Pair) (older : List Pair) → AllByRecursion P (newest ∷ older) → P (extreme exceeds newest older)
extreme-keeps P exceeds newest [] all = all.0
extreme-keeps P exceeds newest (next ∷ older) all =
    elim (exceeds newest (extreme exceeds next older)) as (λ b. P (if b then newest else extreme exceeds next older)) [ true ↦ all.0 | false ↦ extreme-keeps P exceeds next older all.1 ]

lower : (excess : Pair → ℕ) (e n : Pair) (pairs : List Pair) → excess e ≤ excess n → AllByRecursion (λ p. excess p ≤ excess e) pairs → AllByRecursion (λ p. excess p ≤ excess n) pairs
lower excess e n pairs le all = weaker (λ p. excess p ≤ excess e) (λ p. excess p ≤ excess n) pairs (λ p h. omega arith) all

step : (P : Pair → Type 0) (exceeds : Pair → Pair → Bool) (excess : Pair → ℕ) (o : Orders P exceeds excess) (newest next : Pair) (older : List Pair) (e : Pair) → P newest → P e → IsGreatest excess next older e → (b : Bool) → exceeds newest e ≡ b → IsGreatest excess newest (next ∷ older) (if b then newest else e)
step P exceeds excess o newest next older e pn pe ih true is =
    let le : excess e ≤ excess newest = o.above newest e pn pe is in
    record {
      all = (omega arith, lower excess e newest (next ∷ older) le ih.all);
      most = grind (arith, nat_tests, ih.most);
      same = λ pos. let lt : excess (greatest excess next older) < excess newest = omega (arith, ih.most, o.strictly newest e pn pe is pos) in grind (arith, nat_tests);
    }
step P exceeds excess o newest next older e pn pe ih false is =
    let le : excess newest ≤ excess e = o.below newest e pn pe is in
    record {
      all = (le, ih.all);
      most = grind (arith, nat_tests, ih.most);
      same = λ pos. grind (arith, nat_tests, ih.same pos);
    }

pub extreme_is_greatest : (P : Pair → Type 0) (exceeds : Pair → Pair → Bool) (excess : Pair → ℕ) → Orders P exceeds excess → (newest : Pair) (older : List Pair) → AllByRecursion P (newest ∷ older) → IsGreatest excess newest older (extreme exceeds newest older)
extreme_is_greatest P exceeds excess o newest [] all = record { all = (omega arith, tt); most = omega arith; same = λ _. refl }
extreme_is_greatest P exceeds excess o newest (next ∷ older) all =
    step P exceeds excess o newest next older (extreme exceeds next older) all.0 (extreme-keeps P exceeds next older all.1) (extreme_is_greatest P exceeds excess o next older all.1) (exceeds newest (extreme exceeds next older)) refl
