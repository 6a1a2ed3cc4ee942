-- The invariant on each frame that was ever sent.
use Rattle.std.specs.Prelude.{◌≡◌, ℕ, ◌<◌, ◌≤◌, Bool, true, false, Option, Some, ◌⊎◌}
use Rattle.ring_points.specs.declared.who.Who.{Who}
use Rattle.ring_points.specs.declared.who.Ruling.TheVariants.{Granted, Taken, Refused}
use Rattle.ring_points.specs.Whos.{same_who}
use Rattle.ring_machine.specs.Points.{Points}
use Rattle.ring_machine.specs.Ends.{End}
use Rattle.ring_machine.specs.Slots.{Flight, Asking, is_used, is_willing}
use Rattle.ring_machine.specs.Frames.{Frame, Hello, Offer, Take, Renew, RenewAck, Transfer, Gone, Accuse, Ruled, RoundClaim, Kept}
use Rattle.ring_machine.specs.World.{Settings, Instance, World, Place, InFlight, Dead, slot}
use Rattle.ring_machine.specs.Arbitration.{Answered, kept_of, IsOpen}
use Rattle.ring_machine.specs.Sessions.{Tied, BothTied, Closed}
use Rattle.ring_machine.specs.Leases.{Rests}
use Rattle.ring_machine.specs.SoundFlights.{IsWhole}

-- a Hello says what its slot asks for
pub record SoundHello (w : World) (e : End) (node len : ℕ) : Type 0 where
  pub used : is_used (slot w e).state ≡ true
  pub asks_node : (slot w e).state ≡ Asking → (slot w e).far.who.actor ≡ node
  pub asks_length : (slot w e).state ≡ Asking → (slot w e).len ≡ len

-- an Offer has the length of its slot
pub record SoundOffer (w : World) (f e : End) (len : ℕ) : Type 0 where
  pub tied : Tied w f e
  pub length : (slot w f).len ≡ len

-- what a Renew says was true at its sending
pub record SoundRenew (w : World) (f e : End) (stamp version got : ℕ) : Type 0 where
  pub tied : BothTied w f e
  pub rests : Rests (w.instance f.who).pairs w.time stamp
  pub announced : version ≤ (w.instance f.who).token.version
  pub took : got ≤ (slot w f).got

-- an acknowledgement is of a Renew's stamp, and of a version that is recorded, or was
pub record SoundAck (w : World) (e f : End) (stamp version : ℕ) : Type 0 where
  pub tied : BothTied w e f
  pub rests : Rests (w.instance f.who).pairs w.time stamp
  pub recorded : version ≤ (slot w e).held_version

-- a flight of e for f that can be taken. takes and got are those of f's slot, place and flight those of now
pub record Transferable (c : Settings) (taker : Instance) (next_flight : ℕ) (takes : Bool) (place : ℕ → Place) (flight : Option Flight)
    (got : ℕ) (e f : End) (number : ℕ) (part : Points) : Type 0 where
  pub numbered : number < next_flight
  -- its points are on their way until the taker takes it
  pub flying : (p : ℕ) → (Dead c taker → ⊥) → takes ≡ true → got < number → part p ≡ true → place p ≡ InFlight e f number
  pub whole : IsWhole place e number part
  -- one number is one part, and the standing flight is no older
  pub same : (l : Flight) → flight ≡ Some l → l.number ≡ number → (p : ℕ) → l.part p ≡ true → part p ≡ true
  pub last : (l : Flight) → flight ≡ Some l → number ≤ l.number

pub record SoundTransfer (c : Settings) (w : World) (e f : End) (number : ℕ) (part : Points) : Type 0 where
  pub tied : BothTied w e f
  pub transferable :
      Transferable c (w.instance f.who) (w.instance e.who).token.next_flight (is_willing (slot w f).state) w.place (slot w e).flight
      (slot w f).got e f number part

-- the sender of a Gone claims nothing any more, and its got covers all that it took, or the receiver claims nothing
pub record SoundGone (w : World) (e f : End) (got : ℕ) : Type 0 where
  pub closed : Closed w e f
  pub took : ((slot w e).far ≡ f → (slot w e).got ≤ got) ⊎ Closed w f e
  pub used : is_used (slot w f).state ≡ true

-- x accused y at arbitrator a, whose table has z as y's first accuser, and which answered no accusation of x by y
pub record SoundRuling (w : World) (a : ℕ) (x y z : Who) : Type 0 where
  pub kept : w.first_accuser a y ≡ Some z
  pub no_cross : Answered w.sent a y x → ⊥

-- arbitrator a keeps x of the round about y, and the round may be claimed
pub record SoundKept (c : Settings) (w : World) (a : ℕ) (y : Who) (round : ℕ) (x : Who) : Type 0 where
  pub kept : kept_of w a y round ≡ Some x
  pub is_open : IsOpen c w.sent y round

abbrev pub SoundFrame : Settings → World → Frame → Type 0
SoundFrame c w (Hello e node len) = SoundHello w e node len
SoundFrame c w (Offer f e len) = SoundOffer w f e len
SoundFrame c w (Take e f) = BothTied w e f
SoundFrame c w (Renew f e stamp version got points) = SoundRenew w f e stamp version got
SoundFrame c w (RenewAck e f stamp version) = SoundAck w e f stamp version
SoundFrame c w (Transfer e f number part) = SoundTransfer c w e f number part
SoundFrame c w (Gone e f got bound) = SoundGone w e f got
SoundFrame c w (Accuse x y) = same_who x y ≡ false
SoundFrame c w (Ruled a x y Granted) = SoundRuling w a x y x
SoundFrame c w (Ruled a x y Taken) = (z : Who) × SoundRuling w a x y z
SoundFrame c w (Ruled a x y Refused) = Unit {0}
SoundFrame c w (RoundClaim x y round) = IsOpen c w.sent y round
SoundFrame c w (Kept a y round x) = SoundKept c w a y round x
