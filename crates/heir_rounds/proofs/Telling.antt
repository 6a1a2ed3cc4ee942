-- A tally that is told only what arbitrators keep.
use Rattle.std.proofs.Common.{◌≡◌, ◌∙◌, ◌⊎◌, inl, inr, ℕ, ◌+◌, ◌-◌, ◌*◌, ◌<◌, ◌≤◌, ◌==◌, not, Bool, true, false, cond, List, [], ◌∷◌, ◌++◌, length, IsTrue, Some, refl, sym, ap, subst, arith}
use Rattle.std.specs.List.{AllByRecursion}
use Rattle.std.proofs.lemmas.Bool.{cases_order, eqb-true, ltb-false, le-ltb}
use Rattle.ring_points.specs.declared.who.Who.{Who}
use Rattle.ring_points.specs.Whos.{same_who}
use Rattle.arbiter_quorum.specs.Counted.{are_counted}
use Rattle.arbiter_quorum.specs.Tallies.{is_majority, has_answered, with_answer}
use Rattle.arbiter_quorum.proofs.Majorities.{are_counted-push, few_counted}
use Rattle.heir_rounds.specs.declared.verdict.RoundVerdict.{RoundVerdict}
use Rattle.heir_rounds.specs.declared.verdict.RoundVerdict.TheVariants as verdict
use Rattle.heir_rounds.specs.Rounds.{RoundTally, no_rounds, kept_count, unanswered, round_counted, round_verdict_of, gone_on}
use Rattle.heir_rounds.specs.Laws.{Keeping, RoundAnswer, IsGiven, is_kept, keepers, told}
use Rattle.heir_rounds.proofs.Counts.{Pass, most_given}
use Rattle.heir_rounds.proofs.Splits.{next_is, cannot_win}

-- arbitrators keep what is counted of the round
abbrev pub AreKept : Keeping → ℕ → List (ℕ × Who) → Type 0
AreKept kept round answers = AllByRecursion (λ answer. kept answer.0 round ≡ Some answer.1) answers

-- nobody has a majority of the round
abbrev pub IsSplit : Keeping → ℕ → ℕ → Type 0
IsSplit kept n round = (who : Who) → is_majority n (keepers kept n round who) ≡ false

-- its answers are those of arbitrators to its round, and each round before is split
pub record IsTold (kept : Keeping) (n : ℕ) (who : Who) (t : RoundTally) : Type 0 where
  pub me : t.me ≡ who
  pub arbitrators : t.arbitrators ≡ n
  pub counted : IsTrue (are_counted n t.answers)
  pub given : AreKept kept t.round t.answers
  pub from : 1 ≤ t.round
  pub split : (round : ℕ) → 1 ≤ round → round < t.round → IsSplit kept n round

kept_more : (kept : Keeping) (round a : ℕ) (who : Who) (answers : List (ℕ × Who)) → AreKept kept round answers → kept a round ≡ Some who
    → AreKept kept round (answers ++ (a, who) ∷ [])
kept_more kept round a who [] given is = (is, tt)
kept_more kept round a who (answer ∷ answers) given is = (given.0, kept_more kept round a who answers given.1 is)

-- with an answer more
counted_more : (kept : Keeping) (n : ℕ) (who : Who) (t : RoundTally) (answer : RoundAnswer) → IsTold kept n who t → IsGiven kept n answer
    → IsTold kept n who (round_counted t answer.round answer.arbitrator answer.who)
counted_more kept n who t answer state given = by (answer.round == t.round) refl
  where
    now : List (ℕ × Who)
    now = with_answer answer.arbitrator answer.who t.answers

    both : (b : Bool) → has_answered answer.arbitrator t.answers ≡ b → kept answer.arbitrator t.round ≡ Some answer.who
        → IsTrue (are_counted n (cond b t.answers (t.answers ++ (answer.arbitrator, answer.who) ∷ [])))
        × AreKept kept t.round (cond b t.answers (t.answers ++ (answer.arbitrator, answer.who) ∷ []))
    both true e is = (state.counted, state.given)
    both false e is = (
      are_counted-push n answer.arbitrator answer.who t.answers given.from given.to e state.counted,
      kept_more kept t.round answer.arbitrator answer.who t.answers state.given is,
    )

    by : (b : Bool) → (answer.round == t.round) ≡ b → IsTold kept n who (cond b (record t { answers = now }) t)
    by false e = state
    by true e =
        let same = eqb-true answer.round t.round e in
        let is : kept answer.arbitrator t.round ≡ Some answer.who = ap (kept answer.arbitrator) (sym same) ∙ given.is in
        let p = both (has_answered answer.arbitrator t.answers) refl is in
        record {
          me = state.me;
          arbitrators = state.arbitrators;
          counted = p.0;
          given = p.1;
          from = state.from;
          split = state.split;
        }

-- whoever is told by another is not kept
others_pass : (kept : Keeping) (round : ℕ) (z : Who) (answers : List (ℕ × Who)) → AreKept kept round answers
    → Pass (λ a. not (is_kept z (kept a round))) (λ w. not (same_who w z)) answers
others_pass kept round z [] given = tt
others_pass kept round z (answer ∷ answers) given =
    let here : not (same_who answer.1 z) ≡ true → not (is_kept z (kept answer.0 round)) ≡ true = λ other. ap (λ o. not (is_kept z o)) given.0 ∙ other in
    (here, others_pass kept round z answers given.1)

-- where nobody can win by the answers, nobody has a majority
split_here : (kept : Keeping) (n : ℕ) (who : Who) (u : RoundTally) → IsTold kept n who u
    → ((z : Who) → is_majority u.arbitrators (kept_count u z + unanswered u) ≡ false) → IsSplit kept n u.round
split_here kept n who u state none z =
    let no : is_majority n (kept_count u z + (n - length u.answers)) ≡ false =
    subst (λ (m : ℕ). is_majority m (kept_count u z + (m - length u.answers)) ≡ false) state.arbitrators (none z) in
    let few = few_counted n u.answers state.counted in
    let most = most_given n (λ a. is_kept z (kept a u.round)) (λ w. same_who w z) u.answers state.counted (others_pass kept u.round z u.answers state.given) in
    let half = ltb-false n (2 * (kept_count u z + (n - length u.answers))) no in
    le-ltb n (2 * keepers kept n u.round z) (omega arith)

-- the next round, or the same
gone_more : (kept : Keeping) (n : ℕ) (who : Who) (u : RoundTally) (v : RoundVerdict)
    → IsTold kept n who u → round_verdict_of u ≡ v → IsTold kept n who (gone_on u v)
gone_more kept n who u verdict.Won state e = state
gone_more kept n who u verdict.Over state e = state
gone_more kept n who u verdict.Open state e = state
gone_more kept n who u (verdict.Next r) state e =
    let p = next_is u r e in
    let here = split_here kept n who u state (cannot_win u p.0) in
    let next = p.1 in
    record {
      me = state.me;
      arbitrators = state.arbitrators;
      counted = refl;
      given = tt;
      from = omega arith;
      split = λ round from before. at round from (omega arith) here;
    }
  where
    at : (round : ℕ) → 1 ≤ round → round ≤ u.round → IsSplit kept n u.round → IsSplit kept n round
    at round from before here = by (cases_order round u.round)
      where
        by : (round ≡ u.round) ⊎ ((round < u.round) ⊎ (u.round < round)) → IsSplit kept n round
        by (inl same) = subst (IsSplit kept n) (sym same) here
        by (inr (inl less)) = state.split round from less
        by (inr (inr more)) = absurd (omega arith)

pub is_told : (kept : Keeping) (n : ℕ) (who : Who) (limit : ℕ) (answers : List RoundAnswer) → AllByRecursion (IsGiven kept n) answers
    → IsTold kept n who (told (no_rounds who n limit) answers)
is_told kept n who limit [] given = record {
  me = refl;
  arbitrators = refl;
  counted = refl;
  given = tt;
  from = omega arith;
  split = λ round from before. absurd (omega arith);
}
is_told kept n who limit (answer ∷ before) given =
    let t = told (no_rounds who n limit) before in
    let u = round_counted t answer.round answer.arbitrator answer.who in
    gone_more kept n who u (round_verdict_of u) (counted_more kept n who t answer (is_told kept n who limit before given.1) given.0) refl

-- before its verdict
pub is_told_last : (kept : Keeping) (n : ℕ) (who : Who) (limit : ℕ) (newest : RoundAnswer) (before : List RoundAnswer) → AllByRecursion (IsGiven kept n) (newest ∷ before)
    → IsTold kept n who (round_counted (told (no_rounds who n limit) before) newest.round newest.arbitrator newest.who)
is_told_last kept n who limit newest before given =
    counted_more kept n who (told (no_rounds who n limit) before) newest (is_told kept n who limit before given.1) given.0
