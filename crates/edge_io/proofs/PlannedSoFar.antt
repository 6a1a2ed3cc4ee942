-- Calls that all went well, one after another, and one that did not.
use Rattle.std.proofs.Common.{◌≡◌, ℕ, suc, false, ◌||◌, Option, Some, ap, sym, ◌∙◌}
use Rattle.std.proofs.lemmas.Bool.{false_from_ne_true, false≢true}
use Rattle.edge_io.specs.Plan.{Plan, PlannedCall, FollowsPlan, FollowsPlanAll, after_calls, some_fails, next_fails}

-- this many calls of the plan, none of which fails
pub record Passed (plan : Plan) (now : Option Plan) : Type 0 where
  pub calls : ℕ
  pub moved : now ≡ Some (after_calls calls plan)
  pub well : some_fails calls plan ≡ false

abbrev pub NoneFailed : Option Plan → Option Plan → Type 0
NoneFailed old new = (plan : Plan) → old ≡ Some plan → Passed plan new

-- one more call that does not fail
pub none_failed_on : (a b c : Option Plan) (before now : ℕ) (Failed : Type 0) → NoneFailed a b → FollowsPlan b c before now Failed → (Failed → ⊥) → NoneFailed a c
none_failed_on a b c before now Failed passed follows well plan told =
    let p : Passed plan b = passed plan told in
    let call : PlannedCall (after_calls p.calls plan) c before now Failed Failed = follows (after_calls p.calls plan) p.moved in
    record {
      calls = suc p.calls;
      moved = call.moved;
      well = ap (λ some. some || next_fails (after_calls p.calls plan)) p.well ∙ false_from_ne_true _ (λ fails. well (call.refused fails));
    }

-- one more call, whether it fails or not, where `Answered` says the same as that it failed
pub planned_on : (a b c : Option Plan) (before now : ℕ) (Failed Answered : Type 0) → NoneFailed a b → FollowsPlan b c before now Failed → (Failed → Answered) → (Answered → Failed) → FollowsPlanAll a c Answered
planned_on a b c before now Failed Answered passed follows answered failed plan told =
    let p : Passed plan b = passed plan told in
    let call : PlannedCall (after_calls p.calls plan) c before now Failed Failed = follows (after_calls p.calls plan) p.moved in
    let last : some_fails (suc p.calls) plan ≡ next_fails (after_calls p.calls plan) = ap (λ some. some || next_fails (after_calls p.calls plan)) p.well in
    record {
      calls = suc p.calls;
      moved = call.moved;
      failed = (λ x. last ∙ call.failed (failed x), λ fails. answered (call.refused (sym last ∙ fails)));
    }

-- no more call
pub planned_end : (a b : Option Plan) (Failed : Type 0) → NoneFailed a b → (Failed → ⊥) → FollowsPlanAll a b Failed
planned_end a b Failed passed well plan told =
    let p : Passed plan b = passed plan told in
    record {
      calls = p.calls;
      moved = p.moved;
      failed = (λ failed. absurd (well failed), λ fails. absurd (false≢true (sym p.well ∙ fails)));
    }
