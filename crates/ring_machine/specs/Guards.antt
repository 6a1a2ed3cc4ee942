-- When an instance may do a deed. The rules of a node allow less: what is not asked here is not needed for safety.
use Rattle.std.specs.Prelude.{◌≡◌, ℕ, ◌<◌, ◌≤◌, true, false, List, None, Some, ◌⊎◌}
use Rattle.ring_points.specs.declared.who.Who.{Who}
use Rattle.ring_points.specs.Whos.{same_who}
use Rattle.fabric_lemmas.specs.Members.{IsMember}
use Rattle.ring_machine.specs.Points.{union}
use Rattle.ring_machine.specs.Ends.{End, end_of}
use Rattle.ring_machine.specs.Slots.{Slot, Asking, Offered, Bound, Parting, Accused, Heir, Abandoned, Parted, HasClaim, part_of, guards, is_active, is_settled, is_willing, stands, is_tallying, is_decided}
use Rattle.ring_machine.specs.Tokens.{Token}
use Rattle.ring_machine.specs.Frames.{Frame, Hello, Offer, Take, Renew, RenewAck, Transfer, Gone, ends_of}
use Rattle.ring_machine.specs.World.{Settings, World, slot}
use Rattle.ring_machine.specs.Arbitration.{HeirBy, IsOpen, AnsweredBy}
use Rattle.ring_machine.specs.Deeds.{SlotDeed, HelloAgain, HelloDropped, HelloDenied, OfferTaken, OfferAgain, TakeAgain, TakeHeard, RenewSent, RenewHeard, AckHeard, PartFrozen, PartGiven, FlightAgain, FlightTaken, PartingBegun, GoneAgain, GoneHeard, FlightReturned, UnknownDenied, PeerAccused, AccuseAgain, MajorityAnswered, MajorityKept, RoundClaimed, SessionDropped, TakenOver, Deed, HelloBegun, OfferBegun, InSlot}

-- no session with the instance is open
abbrev pub IsAlone : Who → (ℕ → Slot) → Type 0
IsAlone y slots = (m : ℕ) → is_active (slots m).state ≡ true → (slots m).far.who ≡ y → ⊥

-- every slot that guards has acknowledged the version
abbrev pub AllAcked : ℕ → (ℕ → Slot) → Type 0
AllAcked version slots = (m : ℕ) → guards (slots m).state ≡ true → version ≤ (slots m).acked

-- some frame of a session came from the one end to the other
pub record Came (sent : List Frame) (from to : End) : Type 0 where
  pub frame : Frame
  pub was_sent : IsMember frame sent
  pub ends : ends_of frame ≡ Some (from, to)

-- the slot has or had a session with another end, or none is left and nobody was accused
pub data IsUnknown (s : Slot) (from : End) : Type 0 where
  other_session : is_settled s.state ≡ true → (s.far ≡ from → ⊥) → IsUnknown s from
  abandoned : s.state ≡ Abandoned → IsUnknown s from
  parted : s.state ≡ Parted → IsUnknown s from

-- s and token are the slot and the token of e, now its reading
abbrev pub MayInSlot : Settings → World → End → (now : ℕ) → Slot → Token → SlotDeed → Type 0
-- a session begins
MayInSlot c w e now s token HelloAgain = s.state ≡ Asking
MayInSlot c w e now s token HelloDropped = s.state ≡ Asking
MayInSlot c w e now s token (HelloDenied from got bound) =
    (s.state ≡ Asking) × IsMember (Gone from e got bound) w.sent
MayInSlot c w e now s token OfferAgain = s.state ≡ Offered
MayInSlot c w e now s token (OfferTaken from len) =
    (s.state ≡ Asking) × IsMember (Offer from e len) w.sent × IsAlone from.who (w.instance e.who).slots
MayInSlot c w e now s token TakeAgain = s.state ≡ Bound
MayInSlot c w e now s token TakeHeard = (s.state ≡ Offered) × IsMember (Take s.far e) w.sent
-- it is renewed
MayInSlot c w e now s token RenewSent = s.state ≡ Bound
MayInSlot c w e now s token (RenewHeard stamp version got points) =
    (is_willing s.state ≡ true) × IsMember (Renew s.far e stamp version got points) w.sent
MayInSlot c w e now s token (AckHeard stamp version) =
    (stands s.state ≡ true) × IsMember (RenewAck s.far e stamp version) w.sent
-- points are given and taken
MayInSlot c w e now s token (PartFrozen part) = (s.state ≡ Bound) × (token.freeze ≡ None)
MayInSlot c w e now s token (PartGiven freeze) =
    (s.state ≡ Bound) × (token.freeze ≡ Some freeze) × AllAcked freeze.version (w.instance e.who).slots
MayInSlot c w e now s token (FlightAgain flight) = (s.state ≡ Bound) × (s.flight ≡ Some flight)
MayInSlot c w e now s token (FlightTaken number part) =
    (s.state ≡ Bound) × IsMember (Transfer s.far e number part) w.sent × (s.got < number)
MayInSlot c w e now s token (FlightReturned flight got bound) =
    (stands s.state ≡ true) × IsMember (Gone s.far e got bound) w.sent × (s.flight ≡ Some flight) × (got < flight.number)
-- it ends
MayInSlot c w e now s token PartingBegun = (is_willing s.state ≡ true) × (s.flight ≡ None)
MayInSlot c w e now s token GoneAgain = s.state ≡ Parting
MayInSlot c w e now s token (GoneHeard got bound) = (stands s.state ≡ true) × IsMember (Gone s.far e got bound) w.sent
MayInSlot c w e now s token (UnknownDenied from) = Came w.sent from e × IsUnknown s from
-- the other side is accused, and an heir takes over
MayInSlot c w e now s token PeerAccused = stands s.state ≡ true
MayInSlot c w e now s token AccuseAgain = is_tallying s.state ≡ true
MayInSlot c w e now s token MajorityAnswered =
    (is_tallying s.state ≡ true) × AnsweredBy c w.sent e.who s.far.who × HasClaim s.held s.flight
MayInSlot c w e now s token MajorityKept =
    (is_tallying s.state ≡ true) × AnsweredBy c w.sent e.who s.far.who × HeirBy c w.sent e.who s.far.who × HasClaim s.held s.flight
MayInSlot c w e now s token (RoundClaimed round) = (is_tallying s.state ≡ true) × IsOpen c w.sent s.far.who round
MayInSlot c w e now s token SessionDropped =
    (is_decided s.state ≡ true) ⊎ ((s.state ≡ Accused) × AnsweredBy c w.sent e.who s.far.who)
MayInSlot c w e now s token (TakenOver part) =
    (s.state ≡ Heir) × (s.ripe ≤ now) × ((p : ℕ) → part p ≡ true → union s.held (part_of s.flight) p ≡ true)

abbrev pub May : Settings → World → Who → Deed → Type 0
May c w x (HelloBegun node len) = Unit {0}
May c w x (OfferBegun from proposed len) =
    IsMember (Hello from x.actor proposed) w.sent × (len ≤ proposed) × (same_who x from.who ≡ false) × IsAlone from.who (w.instance x).slots
May c w x (InSlot number deed) =
    MayInSlot c w (end_of x number) (w.instance x).reading (slot w (end_of x number)) (w.instance x).token deed
