-- A step of the actor of a served process, carried out at the devices, and before it is told.
use Rattle.std.specs.Prelude.{◌≡◌, false, [], ◌∷◌, Option, Some, None, Result, Ok, Err, length, map}
use Rattle.edge_io.specs.Edge.{HasRisen}
use Rattle.edge_io.specs.Told.{Told}
use Rattle.fabric_terms.specs.declared.report.Why.{Why}
use Rattle.fabric_turns.specs.Runs.{CameBy, IsLast, IsReady, Run}
use Rattle.fabric_turns.specs.Steps.{left_at}
use Rattle.serve_rules.specs.Services.{IsService}
use Rattle.serve_turns.specs.Live.{Live}
use Rattle.serve_turns.specs.Moves.{CutIn, OverBy}
use Rattle.turn_effects.specs.Carried.{CarriedMore, CarriesOut}
use Rattle.turn_members.specs.Members.{seen}
use Rattle.turn_members.specs.declared.deed.Deed.{Deed}
use Rattle.turn_rules.specs.Happenings.{Happening, History}
use Rattle.turn_rules.specs.Order.{GoesServed, TurnPosition}
use Rattle.turn_rules.specs.Plans.{Plan, Setting}
use Rattle.turn_rules.specs.Process.{Full, after, left_end}
use Rattle.turn_rules.specs.Steps.{Step}
use Rattle.turn_rules.specs.Works.{Work, head_of, work_of}
use Rattle.turn_rules.specs.declared.stop_cause.StopCause.{StopCause}
use Rattle.turn_rules.specs.declared.stop_cause.StopCause.TheVariants as stop

-- what a step makes of the run
pub record StepsOn (s : Setting) (h : History) (x : Happening) (step : Step) (new : Run) : Type 0 where
  pub members : (after s (x ∷ h)).members ≡ map seen new.members
  pub last : (after s (x ∷ h)).last ≡ new.last
  pub steps : (after s (x ∷ h)).steps ≡ step ∷ (after s h).steps
  pub end : (after s (x ∷ h)).end ≡ left_end (left_at new.members 0)

-- a step has come of x, and all that it does is done but what is said
pub record Carried (s : Setting) (a b : Told) (run : Run) (h : History) (x : Happening) (p : TurnPosition) (deed : Deed) : Type 0 where
  pub step : Step
  pub before : Told
  pub came : CameBy GoesServed s a before h x p
  pub steps_on : StepsOn s h x step run
  pub carried : CarriedMore (work_of s.plan.config step) before b
  pub clock : IsLast run.last before.last
  pub head : deed.head ≡ head_of step
  pub reports : deed.outcome.reports ≡ step.told

-- carrying out all but the lines of a step, which a served process does not write: a keeper or the memory may fail
abbrev pub CarriesAll : Work → Told → Told → Result (Unit {0}) StopCause → Type 0
CarriesAll s a b (Err stop.WriteFault) = ⊥
CarriesAll s a b result = CarriesOut s a b result

-- why the step of x is not done as a whole
abbrev pub StopsIn : Setting → Told → Told → History → Happening → StopCause → Type 0
StopsIn s a b h x stop.OutOfMemory = (part : Work) × CutIn s a b h x part
StopsIn s a b h x stop.KeepFault = (part : Work) × (CutIn s a b h x part × (part.lines ≡ []) × (part.posts ≡ []) × HasRisen a.keep_faults b.keep_faults)
StopsIn s a b h x stop.TableFull = OverBy s a b (x ∷ h) Full × ((after s (x ∷ h)).steps ≡ (after s h).steps)
StopsIn s a b h x _ = ⊥

abbrev pub CarriesTo : Setting → Told → Told → Run → History → Happening → TurnPosition → Result Deed StopCause → Type 0
CarriesTo s a b run h x p (Ok deed) = Carried s a b run h x p deed
CarriesTo s a b run h x p (Err stopped) = StopsIn s a b h x stopped

-- The process can go on: its plan is of one actor, which runs and listens; it was not told to end; and the sink tells
-- nothing, since what a served process says goes to its clients and its log.
pub record CanGoOn (plan : Plan) (l : Live) (b : Told) : Type 0 where
  pub service : IsService plan
  pub ready : IsReady plan l.run b
  pub runs : length l.run.members ≡ 1
  pub going : l.ending ≡ false
  pub silent : b.held ≡ None

-- the life ends where its actor has left
abbrev pub ending_of : Option Why → Result (Unit {0}) StopCause
ending_of None = Ok tt
ending_of (Some why) = Err (stop.Left why)
