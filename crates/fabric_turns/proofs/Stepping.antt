-- A step of the actor at a place, among those that run.
use Rattle.std.proofs.Common.{arith, ◌≡◌, ◌<◌, ℕ, zero, suc, true, [], ◌∷◌, length, List, Option, Some, Result, Ok, Err, ap, sym, ◌∙◌}
use Rattle.std.specs.Prelude.{IfOk, IsErrOf, slice_get, slice_index_or, slice_set}
use Rattle.arbiter_core.specs.declared.answer.ArbiterError.{ArbiterError}
use Rattle.arbiter_core.specs.declared.answer.ArbiterError.TheVariants.{TableFull}
use Rattle.fabric_terms.specs.declared.config.FabricConfig.{FabricConfig}
use Rattle.fabric_turns.specs.Runs.{AreMembers, Run}
use Rattle.fabric_turns.specs.Steps.{RefusedAt, StepsAt}
use Rattle.ring_rules.specs.declared.input.Input.{Input}
use Rattle.turn_members.specs.Members.{Does, GoesOn, IsDeedOf, IsOf, seen}
use Rattle.turn_members.specs.declared.deed.Deed.{Deed}
use Rattle.turn_members.specs.declared.member.Member.{Member as Running}
use Rattle.turn_rules.specs.Plans.{Plan}
use Rattle.turn_rules.specs.Steps.{exceeds, present, stepped}

-- what is read at an index is there
pub slice_here : {X : Type 0} (xs : List X) (i : ℕ) (x : X) → i < length xs → x ≡ slice_index_or xs i x → slice_get xs i ≡ Some x
slice_here [] i x h e = absurd (omega arith)
slice_here (y ∷ ys) zero x h e = ap Some (sym e)
slice_here (y ∷ ys) (suc i) x h e = slice_here ys i x (omega arith) e

module _ (turn place now : ℕ) (i : Input) (old : Run) (xs : List Running) (last : Option ℕ) (member next : Running) (view : old ≡ record { members = xs; last = last }) (same : present old.last ≡ now)
    (here : slice_get xs place ≡ Some member) where
  there : slice_get old.members place ≡ Some member
  there = ap (λ (r : Run). slice_get r.members place) view ∙ here

  pub made_step : {T : Type 0} (of : T → Deed) (r : Result T ArbiterError)
      → IfOk r (λ x. (c : FabricConfig) (l : Option ℕ) → GoesOn c member → present l ≡ now → Does (stepped c turn l i (seen member)) (seen next) (of x))
      → IfOk r (λ x. (c : FabricConfig) (actor : ℕ) → IsOf c actor member → IsDeedOf actor (of x))
      → ((c : FabricConfig) (actor : ℕ) → IsOf c actor member → IsOf c actor next)
      → IfOk r (λ x. (plan : Plan) → AreMembers plan old.members → StepsAt plan turn place i old (of x) (record { members = slice_set xs place next; last = last }))
  made_step of (Ok x) does own runs = λ plan are.
      let e = are place member there in
      record {
        member = member;
        next = next;
        endpoint = e.0;
        here = there;
        named = e.1.0;
        now = ap (λ (r : Run). record { members = slice_set r.members place next; last = r.last }) (sym view);
        does = does plan.config old.last e.1.1.goes_on same;
        runs = runs plan.config e.0.actor e.1.1;
        own = own plan.config e.0.actor e.1.1;
      }
  made_step of (Err e) does own runs = does

  pub refused_step : {T : Type 0} (r : Result T ArbiterError) → (IsErrOf r TableFull → (c : FabricConfig) (l : Option ℕ) → exceeds (stepped c turn l i (seen member)).member ≡ true)
      → IsErrOf r TableFull → (plan : Plan) → AreMembers plan old.members → RefusedAt plan turn place i old
  refused_step r full is plan are = record { member = member; here = there; full = full is plan.config old.last }
