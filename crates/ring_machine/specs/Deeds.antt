-- What an instance below its fence can do, one deed at a time.
use Rattle.std.specs.Prelude.{ℕ, Bool}
use Rattle.ring_machine.specs.Points.{Points}
use Rattle.ring_machine.specs.Ends.{End}
use Rattle.ring_machine.specs.Slots.{Flight}
use Rattle.ring_machine.specs.Tokens.{Freeze}

-- A deed of a slot; what is heard is named by what the frame carries.
pub data SlotDeed : Type 0 where
  -- a session begins
  HelloAgain : SlotDeed
  HelloDropped : SlotDeed
  HelloDenied : (from : End) → (got : ℕ) → (bound : Bool) → SlotDeed
  OfferAgain : SlotDeed
  OfferTaken : (from : End) → (len : ℕ) → SlotDeed
  TakeAgain : SlotDeed
  TakeHeard : SlotDeed
  -- it is renewed
  RenewSent : SlotDeed
  RenewHeard : (stamp version got : ℕ) → (points : Points) → SlotDeed
  AckHeard : (stamp version : ℕ) → SlotDeed
  -- points are given and taken
  PartFrozen : (part : Points) → SlotDeed
  PartGiven : Freeze → SlotDeed
  FlightAgain : Flight → SlotDeed
  FlightTaken : (number : ℕ) → (part : Points) → SlotDeed
  FlightReturned : Flight → (got : ℕ) → (bound : Bool) → SlotDeed
  -- it ends
  PartingBegun : SlotDeed
  GoneAgain : SlotDeed
  GoneHeard : (got : ℕ) → (bound : Bool) → SlotDeed
  UnknownDenied : (from : End) → SlotDeed
  -- the other side is accused, and an heir takes over
  PeerAccused : SlotDeed
  AccuseAgain : SlotDeed
  MajorityAnswered : SlotDeed
  MajorityKept : SlotDeed
  RoundClaimed : (round : ℕ) → SlotDeed
  SessionDropped : SlotDeed
  TakenOver : (part : Points) → SlotDeed

-- HelloBegun and OfferBegun begin a slot with the next number. An asker proposes a lease length for its link; the other
-- side offers that, or a shorter one.
pub data Deed : Type 0 where
  HelloBegun : (node len : ℕ) → Deed
  OfferBegun : (from : End) → (proposed len : ℕ) → Deed
  InSlot : (number : ℕ) → SlotDeed → Deed
