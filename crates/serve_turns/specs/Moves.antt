-- From one place of a life to another, and how a life ends.
use Rattle.std.specs.Prelude.{◌≡◌, ◌<◌, ◌⊎◌, ℕ, List, [], ◌∷◌, Option, Some, None, Result, Ok, Err}
use Rattle.door_io.specs.Clients.{Asks as Comes, ClientsTold}
use Rattle.door_io.specs.Doors.{Arrived, Asked}
use Rattle.edge_io.specs.Edge.{HasRisen}
use Rattle.edge_io.specs.Told.{Told}
use Rattle.fabric_turns.specs.Runs.{IsStep, MeetsBy}
use Rattle.ring_rules.specs.declared.input.Input.{Input}
use Rattle.serve_rules.specs.Events.{Event}
use Rattle.serve_rules.specs.Lines.{Line, line_of}
use Rattle.serve_rules.specs.Lives.{AreDue, happenings, said_of, served}
use Rattle.serve_rules.specs.Said.{Serves, arrived_of}
use Rattle.serve_rules.specs.Served.{Served, of_coming, of_new, with_coming, with_new}
use Rattle.serve_rules.specs.Services.{life_of}
use Rattle.serve_turns.specs.Live.{Around, At, Beginning, Keeps, Live, advice_of}
use Rattle.turn_rules.specs.Effects.{Did, Stays}
use Rattle.turn_rules.specs.Ends.{IsNothing, IsPartOfNext}
use Rattle.turn_rules.specs.Handed.{Handed, failures_of}
use Rattle.turn_rules.specs.Happenings.{Happening, History}
use Rattle.turn_rules.specs.Order.{GoesServed, IsInOrderBy, TurnPosition}
use Rattle.turn_rules.specs.Plans.{Plan, Setting}
use Rattle.turn_rules.specs.Process.{Back, End, Full, Left, Process, after}
use Rattle.turn_rules.specs.Steps.{Step}
use Rattle.turn_rules.specs.Works.{Work, works_of}
use Rattle.turn_rules.specs.declared.stop_cause.StopCause.{StopCause}
use Rattle.turn_rules.specs.declared.stop_cause.StopCause.TheVariants as stop

-- How the actor ends, after what has come to it.

-- it has ended so by what came last, and all of its steps are done
pub record OverBy (s : Setting) (a b : Told) (h : History) (end : End) : Type 0 where
  pub place : TurnPosition
  pub order : IsInOrderBy GoesServed s.plan h place
  pub ended : (after s h).end ≡ Some end
  pub did : Did (works_of s.plan.config (after s h).steps) (failures_of h) a b
  pub handed : Handed s.plan h a b
  pub stays : Stays a b

-- the process ended in the step of x: all steps before it are done, and of it this part
pub record CutIn (s : Setting) (a b : Told) (h : History) (x : Happening) (part : Work) : Type 0 where
  pub place : TurnPosition
  pub order : IsInOrderBy GoesServed s.plan (x ∷ h) place
  pub on : (after s h).end ≡ None
  pub of : IsNothing part ⊎ IsPartOfNext s x h part
  pub did : Did (part ∷ works_of s.plan.config (after s h).steps) (failures_of (x ∷ h)) a b
  pub handed : Handed s.plan (x ∷ h) a b
  pub stays : Stays a b

-- How a life ends.

-- The life has ended so, by the event that came last; all of its steps are done, what they say is said; and this is kept for
-- the clients, and whether one of them told the process to leave.
pub record Over (plan : Plan) (o : Beginning) (b : Around) (l : Live) (end : End) : Type 0 where
  pub events : List Event
  pub actor : OverBy (life_of plan o.kept) o.told b.told (happenings plan o.kept o.sessions events) end
  pub due : AreDue plan o.kept o.sessions events
  pub serves : Serves (arrived_of events) (said_of plan o.kept o.sessions events) o.clients b.clients
  pub advised : b.advised ≡ advice_of o.advised events
  pub sessions : (served plan o.kept o.sessions events).sessions ≡ l.sessions
  pub leaving : (served plan o.kept o.sessions events).leaving ≡ l.leaving

-- The process ended in the step of the event that came last: all steps before it are done, and of it this part; of the event
-- nothing is said.
pub record Cut (plan : Plan) (o : Beginning) (b : Around) (part : Work) : Type 0 where
  pub before : List Event
  pub last : Event
  pub came : Happening
  pub comes : happenings plan o.kept o.sessions (last ∷ before) ≡ came ∷ happenings plan o.kept o.sessions before
  pub actor : CutIn (life_of plan o.kept) o.told b.told (happenings plan o.kept o.sessions before) came part
  pub due : AreDue plan o.kept o.sessions (last ∷ before)
  pub serves : Serves (arrived_of (last ∷ before)) (said_of plan o.kept o.sessions before) o.clients b.clients
  pub advised : b.advised ≡ advice_of o.advised (last ∷ before)

-- Why a life ends that was not told to, and what is then done. No line is written to the sink, so none fails.
abbrev pub Ends : Plan → Beginning → Around → Live → StopCause → Type 0
Ends plan o b l stop.OutOfMemory = (part : Work) × Cut plan o b part
Ends plan o b l stop.KeepFault = (part : Work) × (Cut plan o b part × (part.lines ≡ []) × (part.posts ≡ []) × HasRisen o.told.keep_faults b.told.keep_faults)
Ends plan o b l (stop.ClockBack former latter) = Over plan o b l (Back former latter) × (o.told.falls < b.told.falls)
Ends plan o b l (stop.Left why) = Over plan o b l (Left why)
Ends plan o b l stop.TableFull = Over plan o b l Full
Ends plan o b l stop.WriteFault = ⊥
Ends plan o b l stop.LinkFault = ⊥
Ends plan o b l (stop.BadKeep i) = ⊥

-- nothing was in the way
abbrev pub went_well : Result (Unit {0}) StopCause
went_well = Ok tt

-- it has come to this place, or the life has ended
abbrev pub ComesTo : {A : Type 0} → Plan → Beginning → Around → Live → TurnPosition → Result A StopCause → Type 0
ComesTo plan o b l p (Ok done) = (es : List Event) × At plan o b l es p
ComesTo plan o b l p (Err stopped) = Ends plan o b l stopped

-- From one place the life comes to another, or it ends, whatever came before.
abbrev pub Moves : {A : Type 0} → Plan → Around → Live → TurnPosition → Around → Live → TurnPosition → Result A StopCause → Type 0
Moves plan b l p c l' p' result = (o : Beginning) (es : List Event) → At plan o b l es p → ComesTo plan o c l' p' result

-- The same where this has come at the door, of which nothing is done yet.
abbrev pub Takes : {A : Type 0} → Plan → List Arrived → Around → Live → TurnPosition → Around → Live → TurnPosition → Result A StopCause → Type 0
Takes plan these b l p c l' p' result =
    (o : Beginning) (es : List Event) (before : ClientsTold) → At plan o (record b { clients = before }) l es p → Comes these before b.clients → ComesTo plan o c l' p' result

-- The same of a line of this client that is this to the sessions.
abbrev pub TakesAs : {A : Type 0} → Plan → ℕ → Line → Around → Live → TurnPosition → Around → Live → TurnPosition → Result A StopCause → Type 0
TakesAs plan client is b l p c l' p' result =
    (line : Option (List ℕ)) → line_of plan l.sessions client line ≡ is → Takes plan (Asked client line ∷ []) b l p c l' p' result

-- An event has come, and its happening to the actor: all steps before it are done and told, and nothing of what it makes.
pub record Meets (plan : Plan) (o : Beginning) (b : Around) (l : Live) (es : List Event) (e : Event) (x : Happening) (p : TurnPosition) : Type 0 where
  pub run : MeetsBy GoesServed (life_of plan o.kept) o.told b.told l.run (happenings plan o.kept o.sessions es) x p
  pub comes : happenings plan o.kept o.sessions (e ∷ es) ≡ x ∷ happenings plan o.kept o.sessions es
  pub keeps : Keeps (served plan o.kept o.sessions es) l
  pub due : AreDue plan o.kept o.sessions (e ∷ es)
  pub serves : Serves (arrived_of (e ∷ es)) (said_of plan o.kept o.sessions es) o.clients b.clients
  pub advised : b.advised ≡ advice_of o.advised (e ∷ es)

-- the event is a step of the actor by this input, and only that step is told
pub record IsStepBy (plan : Plan) (o : Beginning) (es : List Event) (e : Event) (x : Happening) (i : Input) : Type 0 where
  pub step : IsStep (life_of plan o.kept) (happenings plan o.kept o.sessions es) x e.turn 0 i
  pub says : (v : Served) (p : Process) (new : Option Step) → of_coming plan v e.coming p new ≡ of_new v.sessions (Some i) None new
  pub leaves : (v : Served) (p : Process) (new : Option Step) → with_coming plan v e.coming p new ≡ with_new v p (Some i) None new

-- it has come to this place with these events, or the life has ended
abbrev pub Reaches : Plan → Beginning → Around → Live → List Event → TurnPosition → Result (Unit {0}) StopCause → Type 0
Reaches plan o b l es p (Ok done) = At plan o b l es p
Reaches plan o b l es p (Err stopped) = Ends plan o b l stopped
