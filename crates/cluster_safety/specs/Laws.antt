-- A cluster in one process is safe.
use Rattle.std.specs.Prelude.{◌≡◌, ℕ, List, [], ◌∷◌, Option, Some, None, length, map}
use Rattle.fabric_terms.specs.Runs.{Clocks, Run}
use Rattle.fabric_terms.specs.Sound.{IsSound}
use Rattle.fabric_terms.specs.declared.message.Body.{Body}
use Rattle.fabric_terms.specs.declared.record.Record.{Record}
use Rattle.edge_io.specs.Told.{Told}
use Rattle.ring_points.specs.Whos.{node_instance}
use Rattle.ring_points.specs.declared.who.Who.{Who}
use Rattle.turn_rules.specs.Happenings.{History}
use Rattle.turn_rules.specs.Order.{Goes, GoesServed, IsInOrderBy, Rows, TurnPosition}
use Rattle.turn_rules.specs.Plans.{Plan, Setting}
use Rattle.turn_rules.specs.Recalled.{Recalled}
use Rattle.turn_rules.specs.Steps.{Step}
use Rattle.world_rules.specs.Worlds.{arbiter_who}
use Rattle.cluster_safety.specs.Moments.{moments_of}
use Rattle.cluster_safety.specs.Plans.{HoldsNothing, IsClusterPlan, KeepsNothing, OwnFrames}
use Rattle.cluster_safety.specs.Promises.{SafeSteps}

-- The steps of a cluster are safe: of a sound configuration, from empty records, in an order by these rows, where it hears its
-- own frames alone. A reading above 10^15 counts as 10^15, as in the steps.
abbrev pub ClusterIsSafeBy : Rows → Type 0
ClusterIsSafeBy may_go = (s : Setting) (h : History) (p : TurnPosition) → IsSound s.plan.config → IsClusterPlan s.plan → KeepsNothing s →
    IsInOrderBy may_go s.plan h p → OwnFrames s h → SafeSteps s h

-- in the order of its plan
abbrev pub ClusterIsSafe : Type 0
ClusterIsSafe = ClusterIsSafeBy Goes

-- in a served order: commands may come as it runs, and turns may end without a firing
abbrev pub ServedClusterIsSafe : Type 0
ServedClusterIsSafe = ClusterIsSafeBy GoesServed

-- a run that begins with a keeper that holds nothing begins with no record
abbrev pub NothingIsRecalled : Type 0
NothingIsRecalled = (plan : Plan) (a : Told) (kept : List (List Record)) → Recalled plan.actors a kept → length kept ≡ length plan.actors → HoldsNothing plan.actors a →
    KeepsNothing (record { plan = plan; kept = kept })

-- An example: two nodes and an arbitrator start, and each has a step in a turn, in which the first node sends a frame.

abbrev pub step_by : ℕ → Who → Option ℕ → List (Who × Body) → Step
step_by turn who reading sent = record { turn = turn; who = who; reading = reading; records = []; sent = sent; told = [] }

abbrev pub first : Who
first = node_instance 1 1

abbrev pub second : Who
second = node_instance 2 1

abbrev pub example : Body → List Step
example b =
    step_by 1 (arbiter_who 1) None [] ∷ step_by 1 second (Some 9) [] ∷ step_by 1 first (Some 7) ((second, b) ∷ []) ∷
    step_by 0 (arbiter_who 1) None [] ∷ step_by 0 second (Some 5) [] ∷ step_by 0 first (Some 5) [] ∷ []

abbrev pub times_of : Run → List (ℕ × Clocks)
times_of run = map (λ m. (m.time, m.clocks)) run

-- one clock is the true time, and every running node's
abbrev pub StepsAsMoments : Type 0
StepsAsMoments = (b : Body) → times_of (moments_of (example b)) ≡
    (9, (first, 9) ∷ (second, 9) ∷ []) ∷ (9, (first, 9) ∷ (second, 9) ∷ []) ∷ (7, (first, 7) ∷ (second, 7) ∷ []) ∷
    (5, (first, 5) ∷ (second, 5) ∷ []) ∷ (5, (first, 5) ∷ (second, 5) ∷ []) ∷ (5, (first, 5) ∷ []) ∷ []
