-- All instances that ever were, all frames ever sent, what the arbitrators keep, and where each point is.
use Rattle.std.specs.Prelude.{◌≡◌, ℕ, ◌+◌, ◌<◌, Bool, true, false, cond, ◌&&◌, List, [], ◌∷◌, Option, None}
use Rattle.drift_clock.specs.declared.bound.Bound.{Bound}
use Rattle.ring_points.specs.declared.who.Who.{Who}
use Rattle.ring_points.specs.Whos.{same_who, node_instance}
use Rattle.ring_machine.specs.Points.{is_point, no_points}
use Rattle.ring_machine.specs.Ends.{End}
use Rattle.ring_machine.specs.Slots.{Slot, unused_slot, guards}
use Rattle.ring_machine.specs.Tokens.{Token}
use Rattle.ring_machine.specs.Frames.{Frame}

-- the clocks' bound, the answer time, how many arbitrators there are (they are 1, 2, and so on), and the node that the ring begins with
pub record Settings : Type 0 where
  pub bound : Bound
  pub answer : ℕ
  pub arbiters : ℕ
  pub first : ℕ

-- An instance that left the ring still has its clock; one that stopped has none.
pub data Phase : Type 0 where
  Unborn : Phase
  Running : Phase
  Left : Phase
  Stopped : Phase

-- pairs are the true times and readings of its clock, the latest first
pub record Instance : Type 0 where
  pub phase : Phase
  pub reading : ℕ
  pub pairs : List (ℕ × ℕ)
  pub token : Token
  pub slots : ℕ → Slot
  pub next_session : ℕ

-- a point is at an instance, running or not, or on its way, or is no point of the ring
pub data Place : Type 0 where
  At : Who → Place
  InFlight : (giver receiver : End) → (number : ℕ) → Place
  Outside : Place

-- starts is how often each node was started; whole is the instance that begins with the whole ring; first_accuser is the table of each arbitrator, by the accused instance, and
-- first_claimer that of its later rounds, by the accused instance and the round;
-- sent has the latest frame first; place is told by no instance
pub record World : Type 0 where
  pub time : ℕ
  pub starts : ℕ → ℕ
  pub whole : Who
  pub instance : Who → Instance
  pub first_accuser : ℕ → Who → Option Who
  pub first_claimer : ℕ → Who → ℕ → Option Who
  pub sent : List Frame
  pub place : ℕ → Place

abbrev pub slot : World → End → Slot
slot w e = (w.instance e.who).slots e.number

-- the reading is below the least `until` plus the answer time over the slots that guard
abbrev pub BelowFence : Settings → Instance → Type 0
BelowFence c i = (m : ℕ) → guards (i.slots m).state ≡ true → i.reading < (i.slots m).until + c.answer

pub record Live (c : Settings) (i : Instance) : Type 0 where
  pub running : i.phase ≡ Running
  pub below : BelowFence c i

-- it holds nothing, and never will
pub record Dead (c : Settings) (i : Instance) : Type 0 where
  pub born : i.phase ≡ Unborn → ⊥
  pub not_live : Live c i → ⊥

pub record Holds (c : Settings) (w : World) (x : Who) (p : ℕ) : Type 0 where
  pub live : Live c (w.instance x)
  pub owned : (w.instance x).token.ranges p ≡ true

-- the first instance of the first node
abbrev pub first_of : Settings → Who
first_of c = node_instance c.first 1

-- before its start
abbrev pub unborn : Instance
unborn = record {
  phase = Unborn;
  reading = 0;
  pairs = [];
  slots = λ m. unused_slot;
  next_session = 1;
  token = record { ranges = no_points; version = 0; freeze = None; next_flight = 1 };
}

-- at its start: one instance has the whole ring, every other nothing
abbrev pub born : (whole : Who) → ℕ → Who → ℕ → Instance
born whole time x reading = record {
  phase = Running;
  reading = reading;
  pairs = (time, reading) ∷ [];
  slots = λ m. unused_slot;
  next_session = 1;
  token = record { ranges = λ p. same_who x whole && is_point p; version = 1; freeze = None; next_flight = 1 };
}

-- where all points of the ring are at one instance
abbrev pub all_at : Who → ℕ → Place
all_at x p = cond (is_point p) (At x) Outside

-- before any start, all points are at the first instance of the first node, which begins with them
abbrev pub empty_world : Settings → World
empty_world c = record {
  time = 0;
  starts = λ node. 0;
  whole = first_of c;
  instance = λ x. unborn;
  first_accuser = λ arbiter victim. None;
  first_claimer = λ arbiter victim round. None;
  sent = [];
  place = all_at (first_of c);
}

abbrev pub is_running : Phase → Bool
is_running Running = true
is_running _ = false

-- its clock ticks
abbrev pub has_clock : Phase → Bool
has_clock Running = true
has_clock Left = true
has_clock _ = false
