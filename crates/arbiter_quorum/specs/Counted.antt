-- Answers of arbitrators that are counted: the first of each.
use Rattle.std.specs.Prelude.{ℕ, ◌≤◌, Bool, true, not, ◌&&◌, List, [], ◌∷◌, ◌==◌, nat_le, count_by, IsTrue}
use Rattle.std.specs.List.{list_any}
use Rattle.ring_points.specs.Limits.{most_arbiters}
use Rattle.arbiter_quorum.specs.Tallies.{has_answered}

-- the answers are of arbitrators 1 to n, of each at most one
abbrev pub are_counted : {A : Type 0} → ℕ → List (ℕ × A) → Bool
are_counted n [] = true
are_counted n (answer ∷ answers) =
    nat_le 1 answer.0 && nat_le answer.0 n && not (has_answered answer.0 answers) && are_counted n answers

-- the arbitrator has given an answer that is such
abbrev pub has_given : {A : Type 0} → ℕ → (A → Bool) → List (ℕ × A) → Bool
has_given a p answers = list_any (λ answer. answer.0 == a && p answer.1) answers

-- how many answers are such
abbrev pub count_given : {A : Type 0} → (A → Bool) → List (ℕ × A) → ℕ
count_given p answers = count_by (λ answer. p answer.1) answers

-- no more arbitrators than there may be, and their counted answers
pub record Counted {A : Type 0} (n : ℕ) (answers : List (ℕ × A)) : Type 0 where
  pub few : n ≤ most_arbiters
  pub counted : IsTrue (are_counted n answers)
