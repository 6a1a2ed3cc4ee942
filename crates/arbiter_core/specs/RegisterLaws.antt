-- What holds of an arbitrator's answers about partitions, whatever comes to it and however often it is restarted.
use Rattle.std.specs.Prelude.{◌≡◌, ℕ, List, IsTrue}
use Rattle.ring_points.specs.declared.unit.Config.{Config}
use Rattle.ring_points.specs.declared.unit.Epoch.{Epoch}
use Rattle.ring_points.specs.declared.who.Who.{Who}
use Rattle.fabric_terms.specs.declared.message.Body.TheVariants.{Voted}
use Rattle.arbiter_quorum.specs.Counted.{are_counted, has_given}
use Rattle.arbiter_quorum.specs.Votes.{VoteTally, same_config, vote_verdict_of}
use Rattle.arbiter_quorum.specs.declared.verdict.VoteVerdict.TheVariants.{Decided}
use Rattle.arbiter_core.specs.Arbiters.{restored}
use Rattle.arbiter_core.specs.Lives.{Answered, Happening, life}

-- it answers by what its records amount to
abbrev pub IsItsRecords : Type 0
IsItsRecords = (number : ℕ) (hs : List Happening) → (life number hs).arbiter ≡ restored number (life number hs).records

-- the first vote of an epoch never changes: everybody who asks is told the same configuration
abbrev pub OneVote : Type 0
OneVote =
    (number : ℕ) (hs : List Happening) (to other : Who) (partition : ℕ) (epoch : Epoch) (c d : Config)
    → Answered (life number hs).answers to (Voted partition epoch c) → Answered (life number hs).answers other (Voted partition epoch d)
    → c ≡ d

-- what the tally counts of arbitrator a, this arbitrator has answered
abbrev pub IsToldBy : (ℕ → List Happening) → ℕ → Epoch → VoteTally → Type 0
IsToldBy lives partition epoch t =
    (a : ℕ) (c : Config) → IsTrue (has_given a (same_config c) t.answers)
    → (to : Who) × Answered (life a (lives a)).answers to (Voted partition epoch c)

-- two tallies of what the same arbitrators answered about one epoch of a partition never decide two configurations
abbrev pub OneDecision : Type 0
OneDecision =
    (lives : ℕ → List Happening) (partition : ℕ) (epoch : Epoch) (s t : VoteTally) (c d : Config)
    → s.arbitrators ≡ t.arbitrators → IsTrue (are_counted s.arbitrators s.answers) → IsTrue (are_counted t.arbitrators t.answers)
    → IsToldBy lives partition epoch s → IsToldBy lives partition epoch t
    → vote_verdict_of s ≡ Decided c → vote_verdict_of t ≡ Decided d → c ≡ d
