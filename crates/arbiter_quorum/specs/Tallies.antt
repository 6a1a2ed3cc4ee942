-- The rulings on an accusation, and what they amount to.
use Rattle.std.specs.Prelude.{ℕ, ◌+◌, ◌-◌, ◌*◌, Bool, true, false, not, List, [], ◌∷◌, ◌++◌, length, ◌==◌, nat_lt, count_by, if◌then◌else◌}
use Rattle.std.specs.List.{list_any}
use Rattle.ring_points.specs.declared.who.Who.{Who}
use Rattle.ring_points.specs.declared.who.Ruling.{Ruling}
use Rattle.ring_points.specs.declared.who.Ruling.TheVariants.{Granted, Taken, Refused}
use Rattle.arbiter_quorum.specs.declared.verdict.Verdict.{Verdict}
use Rattle.arbiter_quorum.specs.declared.verdict.Verdict.TheVariants as verdict

-- the first answer of each arbitrator on the accusation of victim by me, in the order in which they came
pub record Tally : Type 0 where
  pub me : Who
  pub victim : Who
  pub arbitrators : ℕ
  pub answers : List (ℕ × Ruling)

abbrev pub no_answers : Who → Who → ℕ → Tally
no_answers me victim arbitrators = record { me = me; victim = victim; arbitrators = arbitrators; answers = [] }

-- more than half of n
abbrev pub is_majority : ℕ → ℕ → Bool
is_majority n k = nat_lt n (2 * k)

abbrev pub has_answered : {A : Type 0} → ℕ → List (ℕ × A) → Bool
has_answered a answers = list_any (λ answer. answer.0 == a) answers

-- the first answer of an arbitrator counts
abbrev pub with_answer : {A : Type 0} → ℕ → A → List (ℕ × A) → List (ℕ × A)
with_answer a x answers = if has_answered a answers then answers else answers ++ (a, x) ∷ []

abbrev pub noted : Tally → ℕ → Ruling → Tally
noted t a ruling = record t { answers = with_answer a ruling t.answers }

abbrev pub is_granted : Ruling → Bool
is_granted Granted = true
is_granted Taken = false
is_granted Refused = false

abbrev pub is_refused : Ruling → Bool
is_refused Granted = false
is_refused Taken = false
is_refused Refused = true

-- how many answers are such
abbrev pub count_of : (Ruling → Bool) → Tally → ℕ
count_of p t = count_by (λ answer. p answer.1) t.answers

abbrev pub is_heir : Tally → Bool
is_heir t = is_majority t.arbitrators (count_of is_granted t)

abbrev pub is_discharged : Tally → Bool
is_discharged t = is_majority t.arbitrators (count_of (λ r. not (is_refused r)) t)

-- those that have not refused are no majority
abbrev pub is_lost : Tally → Bool
is_lost t = not (is_majority t.arbitrators (t.arbitrators - count_of is_refused t))

abbrev pub verdict_of : Tally → Verdict
verdict_of t =
    if is_heir t then verdict.Heir
    else (if is_discharged t then verdict.Discharged
    else (if is_lost t then verdict.Lost
    else verdict.Open))

-- those that granted and those that have not answered are a majority
abbrev pub may_be_heir : Tally → Bool
may_be_heir t = is_majority t.arbitrators (count_of is_granted t + (t.arbitrators - length t.answers))
