-- Which calls of a device fail, where that is told.
use Rattle.std.specs.Prelude.{◌≡◌, ℕ, zero, suc, ◌+◌, ◌-◌, ◌^◌, min, Bool, false, ◌||◌, ◌==◌, ◌↔◌, if◌then◌else◌, IsTrue, List, Option, Some}
use Rattle.std.specs.List.{list_any}

-- how many calls there were, and the numbers, from 1, of those that fail
pub record Plan : Type 0 where
  pub calls : ℕ
  pub fail : List ℕ

-- a plan, and how often the device has failed
pub record Faults : Type 0 where
  pub plan : Plan
  pub faults : ℕ

abbrev pub greatest_count : ℕ
greatest_count = 2 ^ 64 - 1

-- one more; counts end at the greatest
abbrev pub counted : ℕ → ℕ
counted n = min (n + 1) greatest_count

-- the number of the next call is listed
abbrev pub next_fails : Plan → Bool
next_fails plan = list_any (λ n. n == counted plan.calls) plan.fail

abbrev pub after_call : Plan → Plan
after_call plan = record { calls = counted plan.calls; fail = plan.fail }

-- how often a device of this plan has failed after its next call
abbrev pub count_after : Plan → ℕ → ℕ
count_after plan faults = if next_fails plan then counted faults else faults

abbrev pub faults_after : Faults → Faults
faults_after f = record { plan = after_call f.plan; faults = count_after f.plan f.faults }

-- no call yet
abbrev pub fresh_faults : List ℕ → Faults
fresh_faults fail = record { plan = record { calls = 0; fail = fail }; faults = 0 }

-- One call of a device with this plan: it fails only where its number is listed, and there it is refused. The
-- count rises exactly there.
pub record PlannedCall (plan : Plan) (now : Option Plan) (faults faults' : ℕ) (Failed Refused : Type 0) : Type 0 where
  pub moved : now ≡ Some (after_call plan)
  pub failed : Failed → IsTrue (next_fails plan)
  pub refused : IsTrue (next_fails plan) → Refused
  pub count : faults' ≡ count_after plan faults

-- where the plan is told, the call is that of the plan
abbrev pub FollowsPlanUnlessRefused : Option Plan → Option Plan → ℕ → ℕ → Type 0 → Type 0 → Type 0
FollowsPlanUnlessRefused old new before now Failed Refused = (plan : Plan) → old ≡ Some plan → PlannedCall plan new before now Failed Refused

-- the same, and it fails wherever it is to fail
abbrev pub FollowsPlan : Option Plan → Option Plan → ℕ → ℕ → Type 0 → Type 0
FollowsPlan old new before now Failed = FollowsPlanUnlessRefused old new before now Failed Failed

-- after that many calls
abbrev pub after_calls : ℕ → Plan → Plan
after_calls zero plan = plan
after_calls (suc n) plan = after_call (after_calls n plan)

-- one of that many next calls fails
abbrev pub some_fails : ℕ → Plan → Bool
some_fails zero plan = false
some_fails (suc n) plan = some_fails n plan || next_fails (after_calls n plan)

-- Some calls of a device with this plan: there is a failure exactly where the number of one of them is listed.
pub record PlannedCalls (plan : Plan) (now : Option Plan) (Failed : Type 0) : Type 0 where
  pub calls : ℕ
  pub moved : now ≡ Some (after_calls calls plan)
  pub failed : Failed ↔ IsTrue (some_fails calls plan)

-- where the plan is told, the calls are those of the plan
abbrev pub FollowsPlanAll : Option Plan → Option Plan → Type 0 → Type 0
FollowsPlanAll old new Failed = (plan : Plan) → old ≡ Some plan → PlannedCalls plan new Failed
