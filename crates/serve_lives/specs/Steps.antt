-- How a served process comes from one life to the next.
use Rattle.std.specs.Prelude.{◌≡◌, ◌⊎◌, true, false, List, Result, Ok, Err}
use Rattle.client_sessions.specs.Sessions.{Kept}
use Rattle.fabric_terms.specs.declared.record.Record.{Record}
use Rattle.fabric_turns.specs.Opening.{RecallsOne}
use Rattle.serve_lives.specs.Endings.{end_of}
use Rattle.serve_lives.specs.Rows.{Life, Lived, returns}
use Rattle.serve_lives.specs.declared.ending.ServeEnd.{ServeEnd}
use Rattle.serve_lives.specs.declared.ending.ServeEnd.TheVariants as serve
use Rattle.serve_rules.specs.Services.{actor_of}
use Rattle.serve_turns.specs.Live.{Around, fresh_live}
use Rattle.serve_turns.specs.Lives.{IsLife}
use Rattle.turn_rules.specs.Plans.{Plan}
use Rattle.turn_rules.specs.declared.stop_cause.StopCause.{StopCause}

-- after this life these sessions stand for the next one, or the process ends
abbrev pub Decides : Life → Result Kept ServeEnd → Type 0
Decides l (Ok v) = (returns l ≡ true) × (v ≡ l.live.sessions)
Decides l (Err end) = (returns l ≡ false) × (end ≡ end_of l.end l.live.leaving)

-- a life from these sessions and records
pub record LivesFrom (plan : Plan) (v : Kept) (records : List Record) (a : Around) (result : Result Kept ServeEnd) (b : Around) : Type 0 where
  pub life : Life
  pub sessions : life.sessions ≡ v
  pub from : life.records ≡ records
  pub begun : life.begun ≡ a
  pub is : IsLife plan life.records life.begun (fresh_live life.sessions) life.end life.ended life.live
  pub ended : life.ended ≡ b
  pub decides : Decides life result

-- a life from these sessions, and from the records that are kept
pub record LivesOnce (plan : Plan) (v : Kept) (a : Around) (result : Result Kept ServeEnd) (b : Around) : Type 0 where
  pub life : Life
  pub sessions : life.sessions ≡ v
  pub lived : Lived plan a life
  pub ended : life.ended ≡ b
  pub decides : Decides life result

-- the records could not be read, and nothing else was done
pub record IsUnread (plan : Plan) (a : Around) (result : Result Kept ServeEnd) (b : Around) : Type 0 where
  pub cause : StopCause
  pub unread : RecallsOne (actor_of plan) a.told (Err cause) b.told
  pub is : result ≡ Err (serve.NotBegun cause)
  pub rest : b ≡ record a { told = b.told }

abbrev pub GoesOnce : Plan → Kept → Around → Result Kept ServeEnd → Around → Type 0
GoesOnce plan v a result b = LivesOnce plan v a result b ⊎ IsUnread plan a result b
