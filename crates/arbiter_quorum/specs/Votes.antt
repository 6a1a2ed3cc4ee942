-- The configurations that arbitrators kept of one epoch, and what they amount to.
use Rattle.std.specs.Prelude.{ℕ, ◌+◌, ◌-◌, Bool, true, false, ◌&&◌, ◌||◌, List, [], length, ◌==◌, Option, Some, None, find, option_map, nat_eq}
use Rattle.std.specs.List.{list_any}
use lib.Pointwise.{pointwise}
use Rattle.ring_points.specs.Epochs.{same_epoch}
use Rattle.ring_points.specs.declared.unit.Config.{Config}
use Rattle.arbiter_quorum.specs.declared.verdict.VoteVerdict.{VoteVerdict}
use Rattle.arbiter_quorum.specs.declared.verdict.VoteVerdict.TheVariants as verdict
use Rattle.arbiter_quorum.specs.Tallies.{is_majority, with_answer}
use Rattle.arbiter_quorum.specs.Counted.{count_given}

-- the configuration that each arbitrator kept, in the order in which the answers came
pub record VoteTally : Type 0 where
  pub arbitrators : ℕ
  pub answers : List (ℕ × Config)

abbrev pub no_votes : ℕ → VoteTally
no_votes arbitrators = record { arbitrators = arbitrators; answers = [] }

abbrev pub vote_noted : VoteTally → ℕ → Config → VoteTally
vote_noted t a kept = record t { answers = with_answer a kept t.answers }

-- the same in every field
abbrev pub same_config : Config → Config → Bool
same_config c d =
    c.partition == d.partition && same_epoch c.epoch d.epoch && c.primary == d.primary && pointwise nat_eq c.members d.members

-- how many kept this configuration
abbrev pub kept_count : VoteTally → Config → ℕ
kept_count t c = count_given (same_config c) t.answers

abbrev pub unanswered : VoteTally → ℕ
unanswered t = t.arbitrators - length t.answers

abbrev pub has_majority : VoteTally → Config → Bool
has_majority t c = is_majority t.arbitrators (kept_count t c)

-- those that kept it and those that have not answered are a majority
abbrev pub may_win : VoteTally → Config → Bool
may_win t c = is_majority t.arbitrators (kept_count t c + unanswered t)

-- the configuration that a majority kept
abbrev pub decided_of : VoteTally → Option Config
decided_of t = option_map (λ answer. answer.1) (find (λ answer. has_majority t answer.1) t.answers)

-- a configuration can still get a majority: one that nobody kept so far, or one that was kept
abbrev pub one_may_win : VoteTally → Bool
one_may_win t = is_majority t.arbitrators (unanswered t) || list_any (λ answer. may_win t answer.1) t.answers

abbrev pub verdict_by : Option Config → Bool → VoteVerdict
verdict_by (Some c) may = verdict.Decided c
verdict_by None true = verdict.Open
verdict_by None false = verdict.Split

abbrev pub vote_verdict_of : VoteTally → VoteVerdict
vote_verdict_of t = verdict_by (decided_of t) (one_may_win t)
