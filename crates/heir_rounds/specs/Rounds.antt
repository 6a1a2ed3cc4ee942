-- Whom arbitrators keep of the rounds about one victim, one round after the other, and what that amounts to.
use Rattle.std.specs.Prelude.{ℕ, ◌+◌, ◌-◌, Bool, ◌||◌, List, [], length, ◌==◌, nat_le, if◌then◌else◌}
use Rattle.std.specs.List.{list_any}
use Rattle.ring_points.specs.declared.who.Who.{Who}
use Rattle.ring_points.specs.Whos.{same_who}
use Rattle.arbiter_quorum.specs.Counted.{count_given}
use Rattle.arbiter_quorum.specs.Tallies.{is_majority, with_answer}
use Rattle.heir_rounds.specs.declared.verdict.RoundVerdict.{RoundVerdict}
use Rattle.heir_rounds.specs.declared.verdict.RoundVerdict.TheVariants as verdict

-- whom each arbitrator that answered keeps of the present round, in the order in which the answers came; rounds count from 1
-- to the limit
pub record RoundTally : Type 0 where
  pub me : Who
  pub arbitrators : ℕ
  pub limit : ℕ
  pub round : ℕ
  pub answers : List (ℕ × Who)

abbrev pub no_rounds : Who → ℕ → ℕ → RoundTally
no_rounds me arbitrators limit = record { me = me; arbitrators = arbitrators; limit = limit; round = 1; answers = [] }

-- how many keep it
abbrev pub kept_count : RoundTally → Who → ℕ
kept_count t who = count_given (λ kept. same_who kept who) t.answers

abbrev pub unanswered : RoundTally → ℕ
unanswered t = t.arbitrators - length t.answers

abbrev pub has_majority : RoundTally → Who → Bool
has_majority t who = is_majority t.arbitrators (kept_count t who)

-- those that keep it and those that have not answered are a majority
abbrev pub may_win : RoundTally → Who → Bool
may_win t who = is_majority t.arbitrators (kept_count t who + unanswered t)

-- a majority keeps one
abbrev pub is_won : RoundTally → Bool
is_won t = list_any (λ answer. has_majority t answer.1) t.answers

-- one can still get a majority: one that nobody keeps so far, or one that is kept
abbrev pub one_may_win : RoundTally → Bool
one_may_win t = is_majority t.arbitrators (unanswered t) || list_any (λ answer. may_win t answer.1) t.answers

-- the verdict where nobody can get a majority
abbrev pub after_split : RoundTally → RoundVerdict
after_split t = if nat_le t.limit t.round then verdict.Over else verdict.Next (t.round + 1)

abbrev pub round_verdict_of : RoundTally → RoundVerdict
round_verdict_of t =
    if has_majority t t.me then verdict.Won
    else (if is_won t then verdict.Over
    else (if one_may_win t then verdict.Open
    else after_split t))

-- the first answer of an arbitrator counts, and of the present round alone
abbrev pub counts_in : RoundTally → ℕ → Bool
counts_in t round = round == t.round

abbrev pub round_counted : RoundTally → ℕ → ℕ → Who → RoundTally
round_counted t round a kept = if counts_in t round then record t { answers = with_answer a kept t.answers } else t

-- a next round begins without answers
abbrev pub gone_on : RoundTally → RoundVerdict → RoundTally
gone_on t (verdict.Next r) = record t { round = r; answers = [] }
gone_on t _ = t

-- with an answer more
abbrev pub round_noted : RoundTally → ℕ → ℕ → Who → RoundTally
round_noted t round a kept = let u = round_counted t round a kept in gone_on u (round_verdict_of u)

-- what it amounts to then
abbrev pub round_verdict : RoundTally → ℕ → ℕ → Who → RoundVerdict
round_verdict t round a kept = round_verdict_of (round_counted t round a kept)
