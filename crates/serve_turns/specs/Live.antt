-- A served process, as its code has it, and how it stands to the definitions.
use Rattle.std.specs.Prelude.{◌≡◌, Bool, false, List, [], ◌∷◌, Option, None, option_map}
use Rattle.client_sessions.specs.Sessions.{Kept}
use Rattle.door_io.specs.Clients.{ClientsTold}
use Rattle.edge_io.specs.Told.{Told}
use Rattle.fabric_terms.specs.declared.command.Command.{Command}
use Rattle.fabric_terms.specs.declared.record.Record.{Record}
use Rattle.fabric_turns.specs.Runs.{AtBy, Run}
use Rattle.fire_pace.specs.Pace.{Pace, pace_after}
use Rattle.serve_rules.specs.Events.{Advised, Coming, Event}
use Rattle.serve_rules.specs.Lives.{AreDue, happenings, said_of, served}
use Rattle.serve_rules.specs.Said.{Serves, arrived_of}
use Rattle.serve_rules.specs.Served.{Served}
use Rattle.serve_rules.specs.Services.{life_of}
use Rattle.state_lines.specs.declared.change_times.SeenChange.{SeenChange}
use Rattle.turn_rules.specs.Order.{GoesServed, TurnPosition}
use Rattle.turn_rules.specs.Plans.{Plan}

-- the actor that runs, what is kept for clients, the pace of firings, the changes that have been seen, and what was ordered
pub record Live : Type 0 where
  pub run : Run
  pub sessions : Kept
  pub pace : Pace
  pub changes : List SeenChange
  pub leaving : Bool
  pub ending : Bool

-- nothing has come; these sessions stand from the life before
abbrev pub fresh_live : Kept → Live
fresh_live v = record { run = record { members = []; last = None }; sessions = v; pace = pace_after []; changes = []; leaving = false; ending = false }

-- the code has what the definition has; the actor itself stands in the run
pub record Keeps (v : Served) (l : Live) : Type 0 where
  pub sessions : v.sessions ≡ l.sessions
  pub pace : l.pace ≡ pace_after v.paced
  pub changes : v.changes ≡ l.changes
  pub leaving : v.leaving ≡ l.leaving
  pub ending : v.ending ≡ l.ending

-- What a life began with: the records of its actor, the sessions that stood, what the devices told, and what the policy had
-- said, if it tells that.
pub record Beginning : Type 0 where
  pub kept : List Record
  pub sessions : Kept
  pub told : Told
  pub clients : ClientsTold
  pub advised : Option (List Command)

-- what the devices tell, and what the policy has said, if it tells that
pub record Around : Type 0 where
  pub told : Told
  pub clients : ClientsTold
  pub advised : Option (List Command)

abbrev pub around : Told → ClientsTold → Option (List Command) → Around
around told clients advised = record { told = told; clients = clients; advised = advised }

-- the policy has said this too, where it tells what it has said
abbrev pub with_advice : Command → Option (List Command) → Option (List Command)
with_advice c said = option_map (λ cs. c ∷ cs) said

-- what the policy has said, with its commands among these events
abbrev pub advice_in : Coming → Option (List Command) → Option (List Command)
advice_in (Advised c) rest = with_advice c rest
advice_in _ rest = rest

abbrev pub advice_of : Option (List Command) → List Event → Option (List Command)
advice_of old [] = old
advice_of old (e ∷ es) = advice_in e.coming (advice_of old es)

-- Since the life began: these events have come, the newest first; their steps are done; what they say is said; and this is
-- the place.
pub record At (plan : Plan) (o : Beginning) (b : Around) (l : Live) (es : List Event) (p : TurnPosition) : Type 0 where
  pub run : AtBy GoesServed (life_of plan o.kept) o.told b.told l.run (happenings plan o.kept o.sessions es) p
  pub keeps : Keeps (served plan o.kept o.sessions es) l
  pub due : AreDue plan o.kept o.sessions es
  pub serves : Serves (arrived_of es) (said_of plan o.kept o.sessions es) o.clients b.clients
  pub advised : b.advised ≡ advice_of o.advised es
