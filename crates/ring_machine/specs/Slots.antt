-- One side of a session between two instances, as its instance keeps it.
use Rattle.std.specs.Prelude.{◌≡◌, ℕ, ◌+◌, Bool, true, false, Option, None, Some}
use Rattle.ring_machine.specs.Points.{Points, no_points}
use Rattle.ring_machine.specs.Ends.{End, any_of}

-- points on their way from a giver to a receiver
pub record Flight : Type 0 where
  pub number : ℕ
  pub part : Points

-- What the two sides know of each other:
--   Unused      there is no slot of this number yet
--   Asking      a Hello was sent; not bound
--   Offered     an Offer was sent; bound, and the other side may not be
--   Bound       both sides are bound
--   Parting     this side parts, and waits for the other's Gone
--   Accused     the other side is accused, and no majority has answered
--   Discharged  a majority of arbitrators answered: this side owes the other nothing
--   Heir        a majority granted: this side takes over after its wait
--   Abandoned   a Hello was given up
--   Parted      the session ended by a Gone
--   Ended       the session ended after an accusation
-- A slot in the last three is one that its node has no more.
pub data State : Type 0 where
  Unused : State
  Asking : State
  Offered : State
  Bound : State
  Parting : State
  Accused : State
  Discharged : State
  Heir : State
  Abandoned : State
  Parted : State
  Ended : State

-- held is the record: what the other side announced in version held_version.
-- got is the last flight taken, acked the last own version that the other side acknowledged.
pub record Slot : Type 0 where
  pub far : End
  pub state : State
  pub until : ℕ
  pub len : ℕ
  pub ripe : ℕ
  pub acked : ℕ
  pub held : Points
  pub held_version : ℕ
  pub got : ℕ
  pub flight : Option Flight

-- a slot of this lease length that begins now
abbrev pub fresh_slot : End → State → ℕ → ℕ → Slot
fresh_slot far state len now = record {
  far = far;
  state = state;
  until = now + len;
  len = len;
  ripe = 0;
  acked = 0;
  held = no_points;
  held_version = 0;
  got = 0;
  flight = None;
}

abbrev pub unused_slot : Slot
unused_slot = fresh_slot (any_of 0) Unused 0 0

-- the slot counts for the fence, and a freeze waits for its acknowledgement
abbrev pub guards : State → Bool
guards Offered = true
guards Bound = true
guards Parting = true
guards Accused = true
guards _ = false

-- there is or was a slot of this number
abbrev pub is_used : State → Bool
is_used Unused = false
is_used _ = true

-- it asks no more: its far end stays
abbrev pub is_settled : State → Bool
is_settled Unused = false
is_settled Asking = false
is_settled _ = true

-- it has or had a session
abbrev pub is_engaged : State → Bool
is_engaged Unused = false
is_engaged Asking = false
is_engaged Abandoned = false
is_engaged _ = true

-- it has a session that is not over
abbrev pub is_active : State → Bool
is_active Unused = false
is_active Asking = false
is_active Abandoned = false
is_active Parted = false
is_active Ended = false
is_active _ = true

-- its session stands: a Gone of the other side ends it, and its silence accuses
abbrev pub stands : State → Bool
stands Offered = true
stands Bound = true
stands Parting = true
stands _ = false

-- a Renew is taken
abbrev pub is_willing : State → Bool
is_willing Offered = true
is_willing Bound = true
is_willing _ = false

-- the other side is accused, and the tally goes on
abbrev pub is_tallying : State → Bool
is_tallying Accused = true
is_tallying Discharged = true
is_tallying _ = false

-- a majority has answered
abbrev pub is_decided : State → Bool
is_decided Discharged = true
is_decided Heir = true
is_decided _ = false

-- there is something to take over: a point of the record, or a flight
pub data HasClaim (held : Points) (flight : Option Flight) : Type 0 where
  of_record : (p : ℕ) → held p ≡ true → HasClaim held flight
  of_flight : (f : Flight) → flight ≡ Some f → HasClaim held flight

-- the part of a flight
abbrev pub part_of : Option Flight → Points
part_of None p = false
part_of (Some f) p = f.part p
