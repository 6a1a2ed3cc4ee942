-- What is chosen of answers is one of them.
use Rattle.std.proofs.Common.{ℕ, Bool, true, false, List, [], ◌∷◌, Option, Some, None, IsTrue, refl}
use Rattle.std.specs.Prelude.{All, find, option_map}
use Rattle.std.proofs.lemmas.Bool.{cond_both}
use Rattle.std.proofs.lemmas.List.Elements.{All-head, All-tail}
use Rattle.arbiter_quorum.specs.declared.verdict.VoteVerdict.{VoteVerdict}
use Rattle.arbiter_quorum.specs.declared.verdict.VoteVerdict.TheVariants as verdict
use Rattle.arbiter_quorum.specs.Votes.{VoteTally, has_majority, one_may_win, verdict_by, vote_verdict_of}
use Rattle.fabric_terms.specs.Fields.{is_config, is_done}
use Rattle.ring_points.specs.declared.unit.Config.{Config}
use Rattle.ring_points.specs.Epochs.{is_older}
use Rattle.unit_rules.specs.declared.reconfig.Standing.{Standing}
use Rattle.unit_rules.specs.Choices.{ahead_of, furthest, higher_if, highest_done, is_ahead_of}

-- The configuration that was done last.

highest_in_range : (o : Option Config) → IsTrue (is_done o) → (rest : Option Config) → IsTrue (is_done rest) → IsTrue (is_done (higher_if o rest))
highest_in_range None h rest k = k
highest_in_range (Some c) h None k = h
highest_in_range (Some c) h (Some d) k =
    cond_both (is_older c.epoch d.epoch) (Some d) (Some c) (λ o. IsTrue (is_done o)) (λ f. k) (λ f. h)

pub highest_done_in_range : (answers : List (ℕ × Option Config)) → All (λ a. IsTrue (is_done a.1)) answers → IsTrue (is_done (highest_done answers))
highest_done_in_range [] h = refl
highest_done_in_range (a ∷ answers) h =
    highest_in_range a.1 (All-head (λ a. IsTrue (is_done a.1)) a answers h) (highest_done answers)
    (highest_done_in_range answers (All-tail (λ a. IsTrue (is_done a.1)) a answers h))

-- The replica with the greatest log.

abbrev pub Found : {X : Type 0} → (X → Type 0) → Option X → Type 0
Found P None = Unit {0}
Found P (Some x) = P x

ahead_in_range : (P : ℕ × Standing → Type 0) (a : ℕ × Standing) → P a → (o : Option (ℕ × Standing)) → Found P o → Found P (ahead_of a o)
ahead_in_range P a h None k = h
ahead_in_range P a h (Some b) k = cond_both (is_ahead_of a b) (Some a) (Some b) (Found P) (λ f. h) (λ f. k)

pub furthest_in_range : (P : ℕ × Standing → Type 0) (answers : List (ℕ × Standing)) → All P answers → Found P (furthest answers)
furthest_in_range P [] h = tt
furthest_in_range P (a ∷ answers) h = ahead_in_range P a (All-head P a answers h) (furthest answers) (furthest_in_range P answers (All-tail P a answers h))

-- The configuration for which a majority voted.

find_in_range : {X : Type 0} (P : X → Type 0) (test : X → Bool) (xs : List X) → All P xs → Found P (find test xs)
find_in_range P test [] h = tt
find_in_range P test (x ∷ xs) h =
    cond_both (test x) (Some x) (find test xs) (Found P) (λ f. All-head P x xs h) (λ f. find_in_range P test xs (All-tail P x xs h))

abbrev pub VerdictInRange : VoteVerdict → Type 0
VerdictInRange (verdict.Decided config) = IsTrue (is_config config)
VerdictInRange _ = Unit {0}

pub verdict_in_range : (t : VoteTally) → All (λ a. IsTrue (is_config a.1)) t.answers → VerdictInRange (vote_verdict_of t)
verdict_in_range t h = decided (find (λ a. has_majority t a.1) t.answers) (find_in_range (λ a. IsTrue (is_config a.1)) (λ a. has_majority t a.1) t.answers h)
  where
    open_or_not : (may : Bool) → VerdictInRange (verdict_by None may)
    open_or_not true = tt
    open_or_not false = tt

    decided : (o : Option (ℕ × Config)) → Found (λ a. IsTrue (is_config a.1)) o
        → VerdictInRange (verdict_by (option_map (λ a. a.1) o) (one_may_win t))
    decided None k = open_or_not (one_may_win t)
    decided (Some a) k = k
