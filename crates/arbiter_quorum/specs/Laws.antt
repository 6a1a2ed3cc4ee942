-- What holds of counted answers.
use Rattle.std.specs.Prelude.{◌≡◌, ℕ, Bool, List, IsTrue}
use Rattle.ring_points.specs.declared.who.Ruling.{Ruling}
use Rattle.ring_points.specs.declared.unit.Config.{Config}
use Rattle.arbiter_quorum.specs.declared.verdict.VoteVerdict.TheVariants.{Decided}
use Rattle.arbiter_quorum.specs.Tallies.{is_majority}
use Rattle.arbiter_quorum.specs.Counted.{are_counted, has_given, count_given}
use Rattle.arbiter_quorum.specs.Votes.{VoteTally, same_config, vote_verdict_of}

-- an arbitrator has given such an answer in both lists
abbrev pub IsShared : {A : Type 0} → (A → Bool) → List (ℕ × A) → (A → Bool) → List (ℕ × A) → Type 0
IsShared p xs q ys = (a : ℕ) × IsTrue (has_given a p xs) × IsTrue (has_given a q ys)

-- where a majority of the counted rulings of one list is such, and a majority of another such, both share an arbitrator
abbrev pub MajoritiesMeet : Type 0
MajoritiesMeet = (n : ℕ) (xs ys : List (ℕ × Ruling)) (p q : Ruling → Bool) → IsTrue (are_counted n xs) → IsTrue (are_counted n ys) → IsTrue (is_majority n (count_given p xs)) → IsTrue (is_majority n (count_given q ys)) → IsShared p xs q ys

-- each arbitrator gave both the same answer, if it answered both
abbrev pub SameAnswers : List (ℕ × Config) → List (ℕ × Config) → Type 0
SameAnswers xs ys = (a : ℕ) (c d : Config) → IsTrue (has_given a (same_config c) xs) → IsTrue (has_given a (same_config d) ys) → c ≡ d

-- two tallies of counted answers, each arbitrator's the same, do not decide two configurations
abbrev pub OneDecision : Type 0
OneDecision = (s t : VoteTally) (c d : Config) → s.arbitrators ≡ t.arbitrators → IsTrue (are_counted s.arbitrators s.answers) → IsTrue (are_counted t.arbitrators t.answers) → SameAnswers s.answers t.answers → vote_verdict_of s ≡ Decided c → vote_verdict_of t ≡ Decided d → c ≡ d
