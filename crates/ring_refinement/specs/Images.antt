-- What a ring's values are on the machine.
use Rattle.std.specs.Prelude.{◌≡◌, ℕ, ◌-◌, Bool, true, false, List, [], length, Option, Some, None, IsTrue}
use Rattle.ring_points.specs.declared.interval.Interval.{Interval}
use Rattle.ring_points.specs.declared.who.Flight as points
use Rattle.ring_points.specs.declared.who.Who.{Who}
use Rattle.ring_points.specs.Ranges.{in_ranges, rises_from}
use Rattle.ring_points.specs.Whos.{arbiter_actor}
use Rattle.fabric_terms.specs.declared.config.FabricConfig.{FabricConfig}
use Rattle.fabric_terms.specs.declared.message.Body.{Body}
use Rattle.fabric_terms.specs.declared.message.Body.TheVariants as body
use Rattle.token_core.specs.Tokens as token
use Rattle.ring_rules.specs.declared.link.Link.{Link}
use Rattle.ring_rules.specs.declared.link.LinkState.{LinkState}
use Rattle.ring_rules.specs.declared.link.LinkState.TheVariants as state
use Rattle.ring_rules.specs.Rings as rings
use Rattle.ring_rules.specs.Slots.{slot_at}
use Rattle.fabric_lemmas.specs.Members.{IsMember}
use Rattle.ring_machine.specs.Points.{Points}
use Rattle.ring_machine.specs.Ends.{end_of}
use Rattle.ring_machine.specs.Slots.{Slot, Flight, State, Asking, Offered, Bound, Parting, Accused, Discharged, Heir}
use Rattle.ring_machine.specs.Tokens.{Token, Freeze}
use Rattle.ring_machine.specs.Frames.{Frame, Hello, Offer, Take, Renew, RenewAck, Transfer, Gone, Accuse, Ruled, RoundClaim, Kept}
use Rattle.ring_machine.specs.World.{Settings}

abbrev pub machine_of : FabricConfig → Settings
machine_of c = record { bound = c.bound; answer = c.answer; arbiters = length c.arbiters; first = c.first }

abbrev pub points_of : List Interval → Points
points_of intervals p = in_ranges p intervals

abbrev pub state_of : LinkState → State
state_of state.Hello = Asking
state_of state.Offered = Offered
state_of state.Bound = Bound
state_of state.Parting = Parting
state_of state.Accused = Accused
state_of state.Discharged = Discharged
state_of state.Heir = Heir

abbrev pub flight_of : Option points.Flight → Option Flight
flight_of None = None
flight_of (Some f) = Some (record { number = f.number; part = points_of f.part })

-- a link that greets has any instance of the node for its far end
abbrev pub slot_of : Link → Slot
slot_of l = record {
  far = end_of l.peer l.yours;
  state = state_of l.state;
  until = l.until;
  len = l.len;
  ripe = l.ripe;
  acked = l.acked;
  held = points_of l.held;
  held_version = l.held_version;
  got = l.got;
  flight = flight_of l.flight;
}

-- the own number of the session at a place
abbrev pub number_of : Option Link → ℕ
number_of None = 0
number_of (Some l) = l.mine

-- a freeze names its slot by its place, and on the machine by its number
abbrev pub freeze_of : rings.Slots → Option token.Freeze → Option Freeze
freeze_of slots None = None
freeze_of slots (Some z) = Some (record { part = points_of z.part; number = number_of (slot_at z.slot slots); version = z.version })

abbrev pub token_of : rings.Slots → token.Token → Token
token_of slots t = record { ranges = points_of t.ranges; version = t.version; freeze = freeze_of slots t.freeze; next_flight = t.next_flight }

-- a message on the machine; a Hello and an Offer of version 1 have the configured lease length
abbrev pub frame_of : ℕ → (from to : Who) → Body → Option Frame
frame_of lease from to (body.Hello mine) = Some (Hello (end_of from mine) to.actor lease)
frame_of lease from to (body.HelloFor mine length) = Some (Hello (end_of from mine) to.actor length)
frame_of lease from to (body.Offer mine yours) = Some (Offer (end_of from mine) (end_of to yours) lease)
frame_of lease from to (body.OfferFor mine yours length) = Some (Offer (end_of from mine) (end_of to yours) length)
frame_of lease from to (body.Take mine yours) = Some (Take (end_of from mine) (end_of to yours))
frame_of lease from to (body.Renew mine yours stamp version got want ranges) =
    Some (Renew (end_of from mine) (end_of to yours) stamp version got (points_of ranges))
frame_of lease from to (body.RenewAck mine yours stamp version) = Some (RenewAck (end_of from mine) (end_of to yours) stamp version)
frame_of lease from to (body.Transfer mine yours flight ranges) = Some (Transfer (end_of from mine) (end_of to yours) flight (points_of ranges))
frame_of lease from to (body.Gone mine yours got bound) = Some (Gone (end_of from mine) (end_of to yours) got bound)
frame_of lease from to (body.Accuse victim) = Some (Accuse from victim)
frame_of lease from to (body.Ruled victim ruling) = Some (Ruled (from.actor - arbiter_actor 0) to victim ruling)
frame_of lease from to (body.Claim victim round) = Some (RoundClaim from victim round)
frame_of lease from to (body.Kept victim round claimer) = Some (Kept (from.actor - arbiter_actor 0) victim round claimer)
frame_of lease from to _ = None

-- the machine has sent it, if it knows it
abbrev pub IsSent : List Frame → Option Frame → Type 0
IsSent sent None = Unit {0}
IsSent sent (Some frame) = IsMember frame sent

abbrev pub ranges_in : Body → List Interval
ranges_in (body.Renew mine yours stamp version got want ranges) = ranges
ranges_in (body.Transfer mine yours flight ranges) = ranges
ranges_in _ = []

abbrev pub is_ruling : Body → Bool
is_ruling (body.Ruled victim ruling) = true
is_ruling _ = false

-- What is known of each message that was ever sent: the machine has sent its image, its ranges are a list of a set,
-- and a ruling is for one instance.
pub record Posted (lease : ℕ) (sent : List Frame) (from to : Who) (b : Body) : Type 0 where
  pub image : IsSent sent (frame_of lease from to b)
  pub rises : IsTrue (rises_from 0 (ranges_in b))
  pub to_one : is_ruling b ≡ true → to.instance ≡ 0 → ⊥
