-- A whole life of a served process.
use Rattle.std.specs.Prelude.{◌≡◌, ◌+◌, ◌-◌, ◌^◌, ℕ, List, None}
use Rattle.client_sessions.specs.Answers.{none_open, unknown_replies}
use Rattle.client_sessions.specs.Utterances.{Uttered}
use Rattle.edge_io.specs.Told.{Told}
use Rattle.fabric_terms.specs.declared.record.Record.{Record}
use Rattle.fabric_turns.specs.Runs.{AllListen}
use Rattle.serve_rules.specs.Events.{Event}
use Rattle.serve_rules.specs.Services.{IsService}
use Rattle.serve_turns.specs.Live.{Around, At, Beginning, Live, fresh_live}
use Rattle.serve_turns.specs.Moves.{Ends}
use Rattle.serve_turns.specs.Turns.{WasTold}
use Rattle.serve_turns.specs.declared.life.LifeEnd.{LifeEnd}
use Rattle.serve_turns.specs.declared.life.LifeEnd.TheVariants as end
use Rattle.turn_rules.specs.Order.{arrive}
use Rattle.turn_rules.specs.Plans.{Plan}
use Rattle.turn_rules.specs.declared.stop_cause.StopCause.{StopCause}
use Rattle.turn_rules.specs.declared.stop_cause.StopCause.TheVariants as stop

-- A life can begin: the plan is of one actor, which listens; nothing has come; and the sink tells nothing, since what a served
-- process says goes to its clients and its log.
pub record CanLive (plan : Plan) (l : Live) (b : Told) : Type 0 where
  pub service : IsService plan
  pub listens : AllListen plan b.opened
  pub fresh : l ≡ fresh_live l.sessions
  pub silent : b.held ≡ None

-- a life that begins with these records and sessions, while the devices tell this
abbrev pub beginning : List Record → Live → Around → Beginning
beginning kept l a = record { kept = kept; sessions = l.sessions; told = a.told; clients = a.clients; advised = a.advised }

-- each open answer has ended with `unknown`, and nothing else was done
pub record Closes (b : Around) (l : Live) (c : Around) (l' : Live) : Type 0 where
  pub said : Uttered (unknown_replies l.sessions) b.clients c.clients
  pub around : c ≡ record b { clients = c.clients }
  pub live : l' ≡ record l { sessions = none_open l.sessions }

-- that is done where the actor has left, and else nothing
abbrev pub ClosesFor : StopCause → Around → Live → Around → Live → Type 0
ClosesFor (stop.Left why) b l c l' = Closes b l c l'
ClosesFor cause b l c l' = (c ≡ b) × (l' ≡ l)

-- the life has ended so, and then its open answers
pub record Stops (plan : Plan) (o : Beginning) (cause : StopCause) (b : Around) (l : Live) : Type 0 where
  pub around : Around
  pub live : Live
  pub ends : Ends plan o around live cause
  pub closes : ClosesFor cause around live b l

-- as many turns as a count of 64 bits has
abbrev pub most_turns : ℕ
most_turns = 2 ^ 64 - 1

-- A life from these records: the events in the served order that have come since it began, what was kept, sent and said of
-- them, and why it ended: a client told the process to end; or all turns are taken that can be counted; or it stopped.
abbrev pub IsLife : Plan → List Record → Around → Live → LifeEnd → Around → Live → Type 0
IsLife plan kept a l end.Told b l' = WasTold plan (beginning kept l a) b l'
IsLife plan kept a l end.Spent b l' = (es : List Event) × At plan (beginning kept l a) b l' es (arrive plan (most_turns + 1) 0)
IsLife plan kept a l (end.Stopped cause) b l' = Stops plan (beginning kept l a) cause b l'
