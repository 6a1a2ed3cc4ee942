-- The greatest confirmed entry, one after another.
use Rattle.std.proofs.Common.{◌≡◌, ℕ, Bool, true, false, cond, List, ◌∷◌, filter, refl, arith}
use Rattle.std.specs.Prelude.{max}
use Rattle.unit_rules.specs.Progress.{greatest}

-- the next entry counts where it passes the test
pub greatest-more : (test : ℕ → Bool) (most n : ℕ) (ns : List ℕ) → max (cond (test n) (max most n) most) (greatest (filter test ns)) ≡ max most (greatest (filter test (n ∷ ns)))
greatest-more test most n ns = by (test n)
  where
    by : (b : Bool) → max (cond b (max most n) most) (greatest (filter test ns)) ≡ max most (greatest (cond b (n ∷ filter test ns) (filter test ns)))
    by true = omega arith
    by false = refl

pub ruleset greatest_more = (greatest-more)
