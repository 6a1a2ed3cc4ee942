-- A step of one of the running actors.
use Rattle.std.specs.Prelude.{◌≡◌, ◌<◌, Result, Ok, Err, ℕ, true, false, List, [], ◌∷◌, ◌++◌, Option, Some, None, slice_get, slice_set}
use Rattle.edge_io.specs.Readings.{is_fall}
use Rattle.edge_io.specs.declared.endpoint.Endpoint.{Endpoint}
use Rattle.fabric_terms.specs.declared.config.FabricConfig.{FabricConfig}
use Rattle.fabric_terms.specs.declared.record.Record.{Record}
use Rattle.fabric_terms.specs.declared.report.Why.{Why}
use Rattle.fabric_turns.specs.Runs.{Run}
use Rattle.edge_io.specs.Told.{Told, ReadsClock}
use Rattle.ring_rules.specs.declared.input.Input.{Input}
use Rattle.turn_effects.specs.Carried.{CarriesOut}
use Rattle.turn_members.specs.Members.{Does, IsDeedOf, IsOf, seen}
use Rattle.turn_members.specs.declared.deed.Deed.{Deed}
use Rattle.turn_members.specs.declared.member.Member.{Member}
use Rattle.turn_rules.specs.Plans.{Plan}
use Rattle.turn_rules.specs.Process.{clamped}
use Rattle.turn_rules.specs.Steps.{begun, exceeds, left_of, stepped}
use Rattle.turn_rules.specs.Works.{Work, work_with}
use Rattle.turn_rules.specs.declared.stop_cause.StopCause.{StopCause}
use Rattle.turn_rules.specs.declared.stop_cause.StopCause.TheVariants as stop

-- what a deed leaves to do
abbrev pub work_in : FabricConfig → Deed → Work
work_in c deed = work_with c deed.head deed.outcome.records deed.outcome.frames deed.outcome.reports

-- the actor at the place has made this step
pub record StepsAt (plan : Plan) (turn place : ℕ) (i : Input) (old : Run) (deed : Deed) (new : Run) : Type 0 where
  pub member : Member
  pub next : Member
  pub endpoint : Endpoint
  pub here : slice_get old.members place ≡ Some member
  pub named : slice_get plan.actors place ≡ Some endpoint
  pub now : new ≡ record { members = slice_set old.members place next; last = old.last }
  pub does : Does (stepped plan.config turn old.last i (seen member)) (seen next) deed
  pub runs : IsOf plan.config endpoint.actor next
  pub own : IsDeedOf endpoint.actor deed

-- the actor of the plan at the place is started from these records
pub record JoinsAt (plan : Plan) (kept : List Record) (place : ℕ) (old : Run) (deed : Deed) (new : Run) : Type 0 where
  pub next : Member
  pub endpoint : Endpoint
  pub named : slice_get plan.actors place ≡ Some endpoint
  pub now : new ≡ record { members = old.members ++ next ∷ []; last = old.last }
  pub does : Does (begun plan.config plan.whole 0 old.last endpoint.actor kept) (seen next) deed
  pub runs : IsOf plan.config endpoint.actor next
  pub own : IsDeedOf endpoint.actor deed

-- an arbitrator can keep no more
pub record RefusedAt (plan : Plan) (turn place : ℕ) (i : Input) (old : Run) : Type 0 where
  pub member : Member
  pub here : slice_get old.members place ≡ Some member
  pub full : exceeds (stepped plan.config turn old.last i (seen member)).member ≡ true

pub record NotJoinsAt (plan : Plan) (kept : List Record) (place : ℕ) (old : Run) : Type 0 where
  pub endpoint : Endpoint
  pub named : slice_get plan.actors place ≡ Some endpoint
  pub full : exceeds (begun plan.config plan.whole 0 old.last endpoint.actor kept).member ≡ true

abbrev pub why_of : Option Member → Option Why
why_of None = None
why_of (Some m) = left_of (seen m)

abbrev pub left_at : List Member → ℕ → Option Why
left_at members place = why_of (slice_get members place)

-- This work is done, and its actor goes on or has left; or it is cut short.
abbrev pub CarriesThrough : Work → Option Why → Told → Told → Result (Unit {0}) StopCause → Type 0
CarriesThrough work left b c (Ok done) = CarriesOut work b c (Ok done) × (left ≡ None)
CarriesThrough work left b c (Err (stop.Left why)) = CarriesOut work b c (Ok tt) × (left ≡ Some why)
CarriesThrough work left b c (Err stopped) = CarriesOut work b c (Err stopped)

-- The clock was read: this counts, and is the last reading from now on.
pub record ReadOn (told : ℕ) (old : Run) (b : Told) (new : Run) (c : Told) : Type 0 where
  pub clock : ReadsClock told b c
  pub on : is_fall old.last (clamped told) ≡ false
  pub now : new ≡ record { members = old.members; last = Some (clamped told) }

-- The clock was read, and it fell.
pub record ReadBack (former latter : ℕ) (old : Run) (b c : Told) : Type 0 where
  pub told : ℕ
  pub clock : ReadsClock told b c
  pub was : old.last ≡ Some former
  pub now : latter ≡ clamped told
  pub falls : latter < former

abbrev pub ReadsNow : Run → Told → Run → Told → Result ℕ StopCause → Type 0
ReadsNow old b new c (Ok told) = ReadOn told old b new c
ReadsNow old b new c (Err (stop.ClockBack former latter)) = ReadBack former latter old b c
ReadsNow old b new c _ = ⊥
