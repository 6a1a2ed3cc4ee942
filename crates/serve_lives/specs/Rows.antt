-- A served process: a row of lives.
use Rattle.std.specs.Prelude.{◌≡◌, ◌≤◌, ◌⊎◌, ◌^◌, ◌-◌, ℕ, Bool, true, false, not, ◌&&◌, List, [], ◌∷◌, Err, length, map}
use Rattle.client_sessions.specs.Sessions.{Kept}
use Rattle.edge_io.specs.Edge.{Tells}
use Rattle.edge_io.specs.Told.{Told}
use Rattle.fabric_terms.specs.declared.record.Record.{Record}
use Rattle.fabric_turns.specs.Opening.{OnlyRecalled, RecallsOne}
use Rattle.keep_log.specs.Spellings.{spelling}
use Rattle.serve_lives.specs.Endings.{end_of, has_left}
use Rattle.serve_lives.specs.declared.ending.ServeEnd.{ServeEnd}
use Rattle.serve_lives.specs.declared.ending.ServeEnd.TheVariants as serve
use Rattle.serve_rules.specs.Services.{actor_of}
use Rattle.serve_turns.specs.Live.{Around, Live, fresh_live}
use Rattle.serve_turns.specs.Lives.{IsLife}
use Rattle.serve_turns.specs.declared.life.LifeEnd.{LifeEnd}
use Rattle.turn_rules.specs.Plans.{Plan}
use Rattle.turn_rules.specs.Recalled.{IsGoodFor}
use Rattle.turn_rules.specs.declared.stop_cause.StopCause.{StopCause}
use Rattle.world_rules.specs.Nodes.{is_spent}

-- One life: the sessions and the records with which it began, and what the devices told then; how it ended, what they told
-- then, and what it left.
pub record Life : Type 0 where
  pub sessions : Kept
  pub records : List Record
  pub begun : Around
  pub end : LifeEnd
  pub ended : Around
  pub live : Live

-- Where the keeper tells, these are the records of the actor, and they are good for it. Nothing was done but to read them.
pub record Recalls (plan : Plan) (a : Told) (records : List Record) (b : Told) : Type 0 where
  pub told : Tells (a.kept (actor_of plan)) (map spelling records)
  pub good : IsGoodFor (actor_of plan) records
  pub only : OnlyRecalled a b

-- Before it began, the devices told this.
pub record Lived (plan : Plan) (a : Around) (l : Life) : Type 0 where
  pub recalls : Recalls plan a.told l.records l.begun.told
  pub begun : l.begun ≡ record a { told = l.begun.told }
  pub life : IsLife plan l.records l.begun (fresh_live l.sessions) l.end l.ended l.live

-- Its instance has left; the process was not told to leave; and not all numbers of instances were used up when it began.
abbrev pub returns : Life → Bool
returns l = has_left l.end && not l.live.leaving && not (is_spent l.records)

-- nothing was done but to read the clock
pub record OnlyRead (a b : Told) : Type 0 where
  pub later : a.falls ≤ b.falls
  pub rest : b ≡ record a { readings = b.readings; last = b.last; falls = b.falls }

-- After this life the next one comes, with its sessions; meanwhile the clock was read, by nobody, and nothing else was done.
pub record GoesOn (l : Life) (v : Kept) (b : Around) : Type 0 where
  pub next : returns l ≡ true
  pub sessions : v ≡ l.live.sessions
  pub told : OnlyRead l.ended.told b.told
  pub rest : b ≡ record l.ended { told = b.told }

-- From these sessions and devices on, these lives were there, the newest first; each went on to the next one, and the newest
-- one to these sessions and devices.
abbrev pub WentOn : Plan → Kept → Around → List Life → Kept → Around → Type 0
WentOn plan v a [] w b = (w ≡ v) × (b ≡ a)
WentOn plan v a (l ∷ ls) w b = (m : Around) × (WentOn plan v a ls l.sessions m × Lived plan m l × GoesOn l w b)

-- the process ended by its last life
pub record EndsByLife (plan : Plan) (v : Kept) (a : Around) (end : ServeEnd) (b : Around) : Type 0 where
  pub before : List Life
  pub between : Around
  pub last : Life
  pub went_on : WentOn plan v a before last.sessions between
  pub lived : Lived plan between last
  pub stays_away : returns last ≡ false
  pub is : end ≡ end_of last.end last.live.leaving
  pub ended : b ≡ last.ended

-- the records for its next life could not be read, and nothing else was done
pub record EndsUnread (plan : Plan) (v : Kept) (a : Around) (end : ServeEnd) (b : Around) : Type 0 where
  pub before : List Life
  pub sessions : Kept
  pub between : Around
  pub cause : StopCause
  pub went_on : WentOn plan v a before sessions between
  pub unread : RecallsOne (actor_of plan) between.told (Err cause) b.told
  pub is : end ≡ serve.NotBegun cause
  pub ended : b ≡ record between { told = b.told }

-- as many lives as there are numbers of instances
abbrev pub most_lives : ℕ
most_lives = 2 ^ 32 - 1

-- so many lives were there, and the next one does not begin
pub record EndsSpent (plan : Plan) (v : Kept) (a : Around) (end : ServeEnd) (b : Around) : Type 0 where
  pub before : List Life
  pub sessions : Kept
  pub went_on : WentOn plan v a before sessions b
  pub all : length before ≡ most_lives
  pub is : end ≡ serve.Spent

-- The whole process, with these sessions at first: which lives there were, and how and why it ended.
abbrev pub IsServed : Plan → Kept → Around → ServeEnd → Around → Type 0
IsServed plan v a end b = EndsByLife plan v a end b ⊎ (EndsUnread plan v a end b ⊎ EndsSpent plan v a end b)
