-- The start, the answers of the links, and the turns of a life.
use Rattle.std.specs.Prelude.{◌≡◌, ◌⊎◌, ℕ, Bool, true, false, List, [], Option, Some, None, Result, Ok, Err}
use Rattle.edge_io.specs.Told.{Told}
use Rattle.fabric_terms.specs.declared.record.Record.{Record}
use Rattle.fabric_turns.specs.Runs.{AtBy, IsKeptAt, IsReady, Run}
use Rattle.keep_log.specs.declared.kept.Kept.{Kept}
use Rattle.serve_rules.specs.Events.{Event}
use Rattle.serve_rules.specs.Lives.{served}
use Rattle.serve_rules.specs.Served.{Served, changes_seen}
use Rattle.serve_rules.specs.Services.{IsService, life_of}
use Rattle.serve_turns.specs.Live.{Around, At, Beginning, Live}
use Rattle.serve_turns.specs.Moves.{ComesTo, Ends}
use Rattle.serve_turns.specs.Steps.{CanGoOn, CarriesTo}
use Rattle.state_lines.specs.declared.change_times.SeenChange.{SeenChange}
use Rattle.turn_members.specs.Members.{seen}
use Rattle.turn_members.specs.declared.member.Member.{Member as Running}
use Rattle.turn_members.specs.declared.deed.Deed.{Deed}
use Rattle.turn_rules.specs.Happenings.{Begins, History}
use Rattle.turn_rules.specs.Order.{GoesServed, TurnPosition, arrive}
use Rattle.turn_rules.specs.Plans.{Plan}
use Rattle.turn_rules.specs.declared.stop_cause.StopCause.{StopCause}

-- The process can start: its plan is of one actor, which listens and does not run yet; it was not told to end; and the sink
-- tells nothing.
pub record CanStart (plan : Plan) (l : Live) (b : Told) : Type 0 where
  pub service : IsService plan
  pub ready : IsReady plan l.run b
  pub nobody : l.run ≡ record { members = []; last = None }
  pub going : l.ending ≡ false
  pub silent : b.held ≡ None

-- From these records the actor starts, and of its start all is done but what is said; or it is not carried out as a whole.
abbrev pub BeginsBy : Plan → Kept → Told → Run → Told → Run → Result Deed StopCause → Type 0
BeginsBy plan kept b run c run' result =
    (records : List Record) (a : Told) (h : History) → IsKeptAt plan 0 records kept → AtBy GoesServed (life_of plan records) a b run h (arrive plan 0 0)
    → (reading : Option ℕ) × CarriesTo (life_of plan records) a c run' h (record { turn = 0; place = 0; comes = Begins reading }) (arrive plan 1 0) result

-- The life from these records comes from one place to another, or it ends, whatever came before.
abbrev pub MovesFrom : Kept → Plan → Around → Live → TurnPosition → Around → Live → TurnPosition → Result (Unit {0}) StopCause → Type 0
MovesFrom kept plan b l p c l' p' result =
    (o : Beginning) (es : List Event) → IsKeptAt plan 0 o.kept kept → At plan o b l es p → ComesTo plan o c l' p' result

-- the changes that are seen of an actor that runs, at this reading
abbrev pub changes_of : ℕ → List SeenChange → Option Running → List SeenChange
changes_of now old None = old
changes_of now old (Some m) = changes_seen now old (Some (seen m))

-- the links were asked once: a datagram came, and the life is at the first place; or none, and it is at the other
abbrev pub ComesToEither : Plan → Beginning → Around → Live → TurnPosition → TurnPosition → Result Bool StopCause → Type 0
ComesToEither plan o b l more none (Ok true) = (es : List Event) × At plan o b l es more
ComesToEither plan o b l more none (Ok false) = (es : List Event) × At plan o b l es none
ComesToEither plan o b l more none (Err stopped) = Ends plan o b l stopped

abbrev pub Asks : Plan → Around → Live → TurnPosition → Around → Live → TurnPosition → TurnPosition → Result Bool StopCause → Type 0
Asks plan b l p c l' more none result = (o : Beginning) (es : List Event) → At plan o b l es p → ComesToEither plan o c l' more none result

-- a client has told the process to end, or to leave
abbrev pub IsToldToEnd : Served → Type 0
IsToldToEnd v = (v.ending ≡ true) ⊎ (v.leaving ≡ true)

-- the life has come to a place where it was told to end
pub record WasTold (plan : Plan) (o : Beginning) (b : Around) (l : Live) : Type 0 where
  pub events : List Event
  pub place : TurnPosition
  pub at : At plan o b l events place
  pub told : IsToldToEnd (served plan o.kept o.sessions events)

-- the life goes on at this place, was told to end, or has ended
abbrev pub GoesOnTo : Plan → Beginning → Around → Live → TurnPosition → Result Bool StopCause → Type 0
GoesOnTo plan o b l p (Ok false) = (es : List Event) × At plan o b l es p
GoesOnTo plan o b l p (Ok true) = WasTold plan o b l
GoesOnTo plan o b l p (Err stopped) = Ends plan o b l stopped

-- From one place to another by a turn, whatever came before; it is the last turn where the process is told to end.
abbrev pub TurnsTo : Plan → Around → Live → TurnPosition → Around → Live → TurnPosition → Result Bool StopCause → Type 0
TurnsTo plan b l p c l' p' result = (o : Beginning) (es : List Event) → At plan o b l es p → GoesOnTo plan o c l' p' result

-- the same of the life from these records
abbrev pub TurnsFrom : Kept → Plan → Around → Live → TurnPosition → Around → Live → TurnPosition → Result Bool StopCause → Type 0
TurnsFrom kept plan b l p c l' p' result =
    (o : Beginning) (es : List Event) → IsKeptAt plan 0 o.kept kept → At plan o b l es p → GoesOnTo plan o c l' p' result

-- the process can go on after a turn, unless it is told to end
abbrev pub CanTurnOn : Plan → Live → Told → Result Bool StopCause → Type 0
CanTurnOn plan l b (Ok false) = CanGoOn plan l b
CanTurnOn plan l b _ = Unit {0}
