-- What a running program is after what has come: its actors, the last reading, and its steps.
use Rattle.std.specs.Prelude.{ℕ, Bool, true, false, List, [], ◌∷◌, ◌++◌, Option, Some, None, min, slice_get, slice_set}
use Rattle.edge_io.specs.Readings.{is_fall}
use Rattle.edge_io.specs.declared.endpoint.Endpoint.{Endpoint}
use Rattle.fabric_terms.specs.declared.message.Message.{Message}
use Rattle.fabric_terms.specs.declared.record.Record.{Record}
use Rattle.fabric_terms.specs.declared.report.Why.{Why}
use Rattle.ring_rules.specs.declared.input.Input.{Input}
use Rattle.ring_rules.specs.declared.input.Input.TheVariants as input
use Rattle.frame_format.specs.Kinds.{message_of}
use Rattle.ring_points.specs.Limits.{most_reading}
use Rattle.turn_rules.specs.Happenings.{Datagram, Absent, Failed, Comes, Begins, Turns, Bids, Hears, Fires, Rests, Happening, History}
use Rattle.turn_rules.specs.Plans.{Setting}
use Rattle.turn_rules.specs.Steps.{Member, Step, Stepped, begun, exceeds, left_of, present, rested, stepped}

-- how a run ends before its last turn: the clock fell, a node left the ring, or an arbitrator can keep no more
pub data End : Type 0 where
  Back : (former latter : ℕ) → End
  Left : (why : Why) → End
  Full : End

-- The actors by their places, the last reading, the steps (the newest first), and how it has ended, if it has.
pub record Process : Type 0 where
  pub members : List Member
  pub last : Option ℕ
  pub steps : List Step
  pub end : Option End

abbrev pub nothing_yet : Process
nothing_yet = record { members = []; last = None; steps = []; end = None }

abbrev pub left_end : Option Why → Option End
left_end None = None
left_end (Some why) = Some (Left why)

-- a reading counts as the greatest one at most
abbrev pub clamped : ℕ → ℕ
clamped reading = min reading most_reading

abbrev pub reads_as : Process → ℕ → Bool → Process
reads_as p reading true = record p { end = Some (Back (present p.last) reading) }
reads_as p reading false = record p { last = Some reading }

-- the clock is read; a reading below the former one ends the run
abbrev pub reads : Process → ℕ → Process
reads p reading = reads_as p (clamped reading) (is_fall p.last (clamped reading))

-- a step is done, unless an arbitrator could not keep what it makes
abbrev pub unless_full : Process → Bool → Process → Process
unless_full p true q = record p { end = Some Full }
unless_full p false q = q

-- An actor's start.

abbrev pub joins_with : Process → Stepped → Process
joins_with p d = record p { members = p.members ++ d.member ∷ []; steps = d.step ∷ p.steps; end = left_end (left_of d.member) }

abbrev pub joins_as : Process → Stepped → Process
joins_as p d = unless_full p (exceeds d.member) (joins_with p d)

abbrev pub joins_at : Setting → ℕ → Process → Option Endpoint → Option (List Record) → Process
joins_at s turn p (Some e) (Some kept) = joins_as p (begun s.plan.config s.plan.whole turn p.last e.actor kept)
joins_at s turn p _ _ = p

abbrev pub joins : Setting → ℕ → ℕ → Process → Process
joins s turn place p = joins_at s turn p (slice_get s.plan.actors place) (slice_get s.kept place)

abbrev pub unless_ended : Process → Option End → Process → Process
unless_ended p None q = q
unless_ended p (Some end) q = p

abbrev pub begins : Setting → ℕ → ℕ → Process → Option ℕ → Process
begins s turn place p None = joins s turn place p
begins s turn place p (Some reading) = unless_ended (reads p reading) (reads p reading).end (joins s turn place (reads p reading))

-- An actor's step.

abbrev pub acts_with : Process → ℕ → Stepped → Process
acts_with p place d = record p { members = slice_set p.members place d.member; steps = d.step ∷ p.steps; end = left_end (left_of d.member) }

abbrev pub acts_as : Process → ℕ → Stepped → Process
acts_as p place d = unless_full p (exceeds d.member) (acts_with p place d)

abbrev pub acts_at : Setting → ℕ → Process → ℕ → Input → Option Member → Process
acts_at s turn p place i None = p
acts_at s turn p place i (Some m) = acts_as p place (stepped s.plan.config turn p.last i m)

abbrev pub acts : Setting → ℕ → Process → ℕ → Input → Process
acts s turn p place i = acts_at s turn p place i (slice_get p.members place)

-- what is no frame changes nothing
abbrev pub hears_frame : Setting → ℕ → Process → ℕ → Option Message → Process
hears_frame s turn p place None = p
hears_frame s turn p place (Some m) = acts s turn p place (input.Frame m)

-- A turn ends without a firing: the actor stays as it is, and its step says at which reading.
abbrev pub rests_at : ℕ → Process → Option Member → Process
rests_at turn p None = p
rests_at turn p (Some m) = record p { steps = rested turn p.last m ∷ p.steps }

abbrev pub takes : Setting → ℕ → Process → ℕ → Comes → Process
takes s turn p place (Begins reading) = begins s turn place p reading
takes s turn p place (Turns reading) = reads p reading
takes s turn p place (Bids command) = acts s turn p place (input.Do command)
takes s turn p place (Hears (Datagram bytes)) = hears_frame s turn p place (message_of bytes)
takes s turn p place (Hears Absent) = p
takes s turn p place (Hears Failed) = p
takes s turn p place Fires = acts s turn p place input.Fire
takes s turn p place Rests = rests_at turn p (slice_get p.members place)

-- what has ended goes on no more
abbrev pub happens : Setting → Process → Happening → Process
happens s p h = unless_ended p p.end (takes s h.turn p h.place h.comes)

abbrev pub after : Setting → History → Process
after s [] = nothing_yet
after s (h ∷ hs) = happens s (after s hs) h
