-- What holds of every run, and examples that are computed.
use Rattle.std.specs.Prelude.{◌≡◌, ℕ, List, [], ◌∷◌, Some, None, codes, slice_get}
use Rattle.fabric_status.specs.declared.status.Status.{Status}
use Rattle.world_rules.specs.Starts.{first_whole}
use Rattle.fabric_terms.specs.declared.command.Command.TheVariants.{Create, Join}
use Rattle.fabric_terms.specs.declared.config.FabricConfig.{FabricConfig}
use Rattle.fabric_terms.specs.declared.message.Message.{Message}
use Rattle.edge_io.specs.Told.{Told}
use Rattle.turn_rules.specs.Ends.{IsNothing}
use Rattle.turn_rules.specs.Happenings.{Absent, Begins, Bids, Datagram, Fires, Happening, Hears, History, Rests, Turns, Comes}
use Rattle.turn_rules.specs.Order.{IsInOrder, IsInOrderBy, IsServedOrder, Rows, TurnPosition, arrive}
use Rattle.turn_rules.specs.Plans.{Plan, Setting}
use Rattle.turn_rules.specs.Process.{End, Process, after, takes}
use Rattle.turn_rules.specs.Steps.{Member, Step}
use Rattle.turn_rules.specs.Whole.{Bars, Runs}
use Rattle.turn_rules.specs.Works.{posts_of, work_of}

-- what has come in order leads to one place
abbrev pub OnePlace : Rows → Type 0
OnePlace may_go = (plan : Plan) (h : History) (p q : TurnPosition) → IsInOrderBy may_go plan h p → IsInOrderBy may_go plan h q → p ≡ q

-- each order of a plan's run is a served one
abbrev pub PlansAreServed : Type 0
PlansAreServed = (plan : Plan) (h : History) (p : TurnPosition) → IsInOrder plan h p → IsServedOrder plan h p

-- what has ended goes on no more
abbrev pub NothingAfterEnd : Type 0
NothingAfterEnd = (s : Setting) (h : History) (x : Happening) (end : End) → (after s h).end ≡ Some end → after s (x ∷ h) ≡ after s h

-- what a turn does that ends without a firing: one step more, in which nothing is kept, sent or written
pub record IsIdleTurn (s : Setting) (turn place : ℕ) (p : Process) : Type 0 where
  pub step : Step
  pub is : takes s turn p place Rests ≡ record p { steps = step ∷ p.steps }
  pub nothing : IsNothing (work_of s.plan.config step)

abbrev pub RestsAreIdle : Type 0
RestsAreIdle = (s : Setting) (turn place : ℕ) (p : Process) (m : Member) → slice_get p.members place ≡ Some m → IsIdleTurn s turn place p

-- no frame is sent to an actor that is not configured
abbrev pub NoneToStrangers : Type 0
NoneToStrangers = (c : FabricConfig) (ms : List Message) → c.nodes ≡ [] → c.arbiters ≡ [] → posts_of c ms ≡ []

-- where a record is bad, a run opens no endpoint, and ends with that record or before it was told
abbrev pub BadRecordsBar : Type 0
BadRecordsBar = (plan : Plan) (a : Told) (ended : Status) (c : Told) → Runs plan a ended c → Bars plan a ended c

-- An example: node 1 and arbitrator 1 take one turn, in which the node has a command.

abbrev pub example_plan : FabricConfig → Plan
example_plan c = record {
  config = c;
  whole = first_whole c;
  actors = record { actor = 1; at = codes "127.0.0.1:4001" } ∷ record { actor = 32769; at = codes "127.0.0.1:4011" } ∷ [];
  orders = record { turn = 1; place = 0; command = Join 2 } ∷ [];
  turns = 1;
}

abbrev pub happening : ℕ → ℕ → Comes → Happening
happening turn place comes = record { turn = turn; place = place; comes = comes }

-- the node starts, then the arbitrator; the node's clock is read, it is told to join, a datagram comes and no more, and it
-- fires; then nothing comes to the arbitrator
abbrev pub example : List ℕ → History
example bytes =
    happening 1 1 (Hears Absent) ∷ happening 1 0 Fires ∷ happening 1 0 (Hears Absent) ∷ happening 1 0 (Hears (Datagram bytes)) ∷
    happening 1 0 (Bids (Join 2)) ∷ happening 1 0 (Turns 7) ∷ happening 0 1 (Begins None) ∷ happening 0 0 (Begins (Some 5)) ∷ []

-- it is in order, and then turn 2 begins
abbrev pub ExampleIsInOrder : Type 0
ExampleIsInOrder = (c : FabricConfig) (bytes : List ℕ) → IsInOrder (example_plan c) (example bytes) (arrive (example_plan c) 2 0)

-- An example of a served run: node 1 takes two turns, in both of which nothing is planned.

abbrev pub served_plan : FabricConfig → Plan
served_plan c = record { config = c; whole = first_whole c; actors = record { actor = 1; at = codes "127.0.0.1:4001" } ∷ []; orders = []; turns = 2 }

-- the first turn ends without a firing; in the second a datagram comes, the node is told to create a partition, and it fires
abbrev pub served_example : List ℕ → History
served_example bytes =
    happening 2 0 Fires ∷ happening 2 0 (Hears Absent) ∷ happening 2 0 (Bids (Create 7 3)) ∷ happening 2 0 (Hears (Datagram bytes)) ∷
    happening 2 0 (Turns 9) ∷ happening 1 0 Rests ∷ happening 1 0 (Hears Absent) ∷ happening 1 0 (Turns 7) ∷
    happening 0 0 (Begins (Some 5)) ∷ []

-- it is in a served order, after which turn 3 begins, and in no order of the plan
abbrev pub ServedExample : Type 0
ServedExample = (c : FabricConfig) (bytes : List ℕ) →
    IsServedOrder (served_plan c) (served_example bytes) (arrive (served_plan c) 3 0) × ((p : TurnPosition) → ¬ IsInOrder (served_plan c) (served_example bytes) p)
