-- A plan from its actors and its commands.
use Rattle.std.proofs.Common.{◌≡◌, ℕ, List, [], Option, Result, Err, ap, subst}
use Rattle.edge_io.specs.declared.endpoint.Endpoint.{Endpoint}
use Rattle.fabric_status.specs.declared.status.Refusal.{Refusal}
use Rattle.fabric_terms.specs.declared.config.FabricConfig.{FabricConfig}
use Rattle.turn_rules.specs.declared.order.Order.{Order}
use Rattle.turn_plans.specs.Crews.{endpoints_of}
use Rattle.turn_plans.specs.Plans.{judge_from, plan_of, plan_with}
use Rattle.turn_plans.specs.Reading.{AreJudged, Reads}
use Rattle.turn_plans.specs.declared.crew.Crew.{Crew}
use Rattle.turn_plans.specs.declared.error.PlanError.{PlanError}
use Rattle.turn_plans.specs.declared.error.PlanError.TheVariants as error
use Rattle.turn_rules.specs.Plans.{Plan}

pub planned : (crew : Crew) (turns : ℕ) (c : FabricConfig) (actors : List Endpoint) (waiting : List ℕ) (left : Option (List ℕ)) (orders : Result (List Order) Refusal) → actors ≡ endpoints_of c crew
    → AreJudged (judge_from crew c actors turns [] 1 2) waiting left orders → AreJudged (plan_of crew turns c) waiting left (plan_with c actors turns orders)
planned crew turns c actors waiting left orders same judged =
    subst (λ (es : List Endpoint). AreJudged (λ ls. plan_with c es turns (judge_from crew c es turns [] 1 2 ls)) waiting left (plan_with c actors turns orders)) same
    (record {
      lines = judged.lines;
      plain = judged.plain;
      some = ap (plan_with c actors turns) judged.some;
      all = λ bytes e. ap (plan_with c actors turns) (judged.all bytes e);
    })

-- lines that are refused, or a source that failed, or want of memory
pub planned_error : {B : Type 0} (seen : B → List Order) (crew : Crew) (turns : ℕ) (c : FabricConfig) (actors : List Endpoint) (waiting : List ℕ) (left now : Option (List ℕ)) (e : PlanError) → actors ≡ endpoints_of c crew
    → Reads seen (AreJudged (judge_from crew c actors turns [] 1 2) waiting left) left (Err e) now → Reads {A = Plan} {B = Plan} (λ p. p) (AreJudged (plan_of crew turns c) waiting left) left (Err e) now
planned_error seen crew turns c actors waiting left now (error.Refused refusal) same judged = planned crew turns c actors waiting left (Err refusal) same judged
planned_error seen crew turns c actors waiting left now error.SourceFailed same judged = tt
planned_error seen crew turns c actors waiting left now error.OutOfMemory same judged = tt
