-- The links of a node as a value, and what is made of them.
use Rattle.std.specs.Prelude.{ℕ, ◌+◌, Bool, true, false, List, [], ◌∷◌, ◌++◌, Option, Some, None, nat_lt, slice_set}
use Rattle.drift_clock.specs.declared.bound.Bound.{Bound}
use Rattle.ring_points.specs.declared.who.Who.{Who}
use Rattle.fabric_terms.specs.declared.message.Body.{Body}
use Rattle.fabric_terms.specs.declared.message.Body.TheVariants.{Gone}
use Rattle.fabric_terms.specs.declared.report.Why.TheVariants.{Counters}
use Rattle.token_core.specs.Tokens.{last_number}
use Rattle.arbiter_quorum.specs.Tallies.{no_answers}
use Rattle.heir_rounds.specs.Rounds.{no_rounds}
use Rattle.ring_rules.specs.declared.link.Link.{Link}
use Rattle.ring_rules.specs.declared.link.LinkState.{LinkState}
use Rattle.ring_rules.specs.Rings.{Slots}
use Rattle.ring_rules.specs.Slots.{slot_at}
use Rattle.link_core.specs.declared.notes.LinkNote.{LinkNote}
use Rattle.link_core.specs.declared.notes.LinkNote.TheVariants.{Leave}

-- Whose links they are, the lease of a link that names no length, the longest lease that is granted, the time for an
-- answer, the clocks' bound, how many arbitrators and how many rounds there are; the slots, the number of the next session, and the accused.
pub record Links : Type 0 where
  pub me : Who
  pub lease : ℕ
  pub longest : ℕ
  pub answer : ℕ
  pub bound : Bound
  pub arbitrators : ℕ
  pub rounds : ℕ
  pub slots : Slots
  pub next_session : ℕ
  pub accused : List Who

-- what a row makes of one slot: the slot, the frames that it sends, and what it leaves to the caller
pub record Turn : Type 0 where
  pub slot : Option Link
  pub sent : List (Who × Body)
  pub notes : List LinkNote

-- what a row makes of the links: the links, the frames that it sends, and what it leaves to the caller
pub record Did : Type 0 where
  pub links : Links
  pub sent : List (Who × Body)
  pub notes : List LinkNote

abbrev pub turn : Option Link → List (Who × Body) → List LinkNote → Turn
turn slot sent notes = record { slot = slot; sent = sent; notes = notes }

abbrev pub did : Links → List (Who × Body) → List LinkNote → Did
did links sent notes = record { links = links; sent = sent; notes = notes }

-- nothing is changed, and nothing is sent
abbrev pub stays : Option Link → Turn
stays slot = turn slot [] []

abbrev pub same : Links → Did
same k = did k [] []

-- one frame is sent, and nothing is changed
abbrev pub says : Links → Who → Body → Did
says k to b = did k ((to, b) ∷ []) []

-- one note is left, and nothing is changed
abbrev pub asks_for : Links → LinkNote → Did
asks_for k note = did k [] (note ∷ [])

-- after the frames that were sent before

abbrev pub turn_after : List (Who × Body) → Turn → Turn
turn_after before t = record t { sent = before ++ t.sent }

abbrev pub did_after : List (Who × Body) → Did → Did
did_after before d = record d { sent = before ++ d.sent }

-- the place has this slot
abbrev pub with_slot : ℕ → Option Link → Links → Links
with_slot i slot k = record k { slots = slice_set k.slots i slot }

-- the place has this link, and the number of its session is used up
abbrev pub with_session : ℕ → Link → Links → Links
with_session i l k = record k { slots = slice_set k.slots i (Some l); next_session = k.next_session + 1 }

-- no number of a session is left
abbrev pub is_spent : Links → Bool
is_spent k = nat_lt last_number k.next_session

-- a row in one place
abbrev pub in_place : ℕ → Turn → Links → Did
in_place i t k = did (with_slot i t.slot k) t.sent t.notes

-- what a row makes of a slot
abbrev pub SlotRow : Type 0
SlotRow = Option Link → Turn

-- in the place that was found, by a row that knows the place
abbrev pub in_found : (ℕ → SlotRow) → Did → Links → Option ℕ → Did
in_found row none k None = none
in_found row none k (Some i) = in_place i (row i (slot_at i k.slots)) k

-- a link that begins now: no record, no flight, nothing acknowledged
abbrev pub new_link : Links → ℕ → Who → ℕ → LinkState → ℕ → ℕ → Link
new_link k now peer theirs first wire len =
    record {
      peer = peer;
      mine = k.next_session;
      yours = theirs;
      state = first;
      until = now + len;
      ripe = 0;
      acked = 0;
      held = [];
      held_version = 0;
      got = 0;
      flight = None;
      tally = no_answers k.me peer k.arbitrators;
      rounds = no_rounds k.me k.arbitrators k.rounds;
      len = len;
      wire = wire;
    }

-- the answer in no session
abbrev pub unknown : Who → ℕ → ℕ → Links → Did
unknown from theirs own k = says k from (Gone own theirs 0 false)

-- what a slot that parts says
abbrev pub gone_said : Link → Turn
gone_said l = turn (Some l) ((l.peer, Gone l.mine l.yours l.got true) ∷ []) []

-- the row is not done: no number is left for its session
abbrev pub no_number : Links → Did
no_number k = asks_for k (Leave Counters)
