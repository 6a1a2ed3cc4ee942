-- What a deed of e owes so that the invariant is kept. Each duty is told of the world w before the deed:
-- s is e's slot before it, t its slot after it, token the token after it, sent what it sends, place where the points are then.
use Rattle.std.proofs.Common.{◌≡◌, ℕ, ◌+◌, ◌<◌, ◌≤◌, true, false, List, [], ◌++◌, Some, None, ◌⊎◌}
use Rattle.ring_points.specs.declared.who.Who.{Who}
use Rattle.ring_points.specs.Whos.{same_who}
use Rattle.fabric_lemmas.specs.Members.{IsMember}
use Rattle.ring_machine.specs.Points.{Points}
use Rattle.ring_machine.specs.Ends.{End}
use Rattle.ring_machine.specs.Slots.{Slot, Flight, Asking, Bound, Parting, Discharged, Heir, Parted, HasClaim, guards, is_used, is_settled, is_engaged, is_active, is_willing}
use Rattle.ring_machine.specs.Tokens.{Token, Freeze}
use Rattle.ring_machine.specs.Frames.{Frame, Hello, Offer, Take, Renew, RenewAck, Transfer, Gone, Accuse, Ruled, RoundClaim, Kept}
use Rattle.ring_machine.specs.World.{Settings, World, Unborn, Place, At, Outside, InFlight, Live, Dead, slot}
use Rattle.ring_machine.specs.Arbitration.{AnsweredBy, IsOpen}
use Rattle.ring_machine.specs.Effects.{Outcome}
use Rattle.ring_machine.specs.Sessions.{Tied, BothTied, Touched, Untouched, IsEmpty, Quiet, Closed, ClosedTo}
use Rattle.ring_machine.specs.Claims.{Barred, Claim}
use Rattle.ring_machine.specs.Leases.{Rests, Leased, SoundHeir}
use Rattle.ring_machine.specs.SoundSlots.{Freed, AsksFor}
use Rattle.ring_machine.specs.SoundFlights.{SoundFlight, SoundToken, FrozenTo}
use Rattle.ring_machine.specs.SoundFrames.{SoundRenew, SoundAck, Transferable}
use Rattle.ring_machine.specs.Invariant.{Invariant}
use Rattle.ring_machine.proofs.Later.{AskedBefore}

-- sessions, leases and arbitration
pub record LinkDuty (c : Settings) (w : World) (e : End) (s t : Slot) (next : ℕ) : Type 0 where
  pub numbered : e.number < next
  pub counter : (w.instance e.who).next_session ≤ next
  pub used : is_used t.state ≡ true
  pub asks : is_used s.state ≡ true → t.state ≡ Asking → AskedBefore s t
  pub engages : is_engaged s.state ≡ true → is_engaged t.state ≡ true
  pub settles : is_settled s.state ≡ true → is_settled t.state ≡ true
  pub far : is_settled s.state ≡ true → t.far ≡ s.far
  pub len : is_settled s.state ≡ true → t.len ≡ s.len
  pub quiets : is_settled s.state ≡ true → Quiet s.state s.held s.flight → Quiet t.state t.held t.flight
  pub willing : is_settled s.state ≡ true → is_willing t.state ≡ true → is_willing s.state ≡ true
  pub single : is_active t.state ≡ true →
      (is_active s.state ≡ true) ⊎ ((g : End) → g.who ≡ e.who → is_active (slot w g).state ≡ true → (slot w g).far.who ≡ t.far.who → ⊥)
  pub far_used : is_engaged t.state ≡ true → is_used (slot w t.far).state ≡ true
  pub apart : is_engaged t.state ≡ true → same_who e.who t.far.who ≡ false
  pub touched : Touched t → Tied w t.far e
  pub bound : t.state ≡ Bound → Tied w t.far e
  pub asker : is_engaged t.state ≡ true → (slot w t.far).state ≡ Asking → AsksFor (slot w t.far) e.who.actor t.len
  pub agreed : is_engaged t.state ≡ true → Tied w t.far e → t.len ≡ (slot w t.far).len
  pub plain : is_engaged t.state ≡ false → Untouched t × IsEmpty t.held
  pub recorded : (p : ℕ) → t.held p ≡ true → 0 < t.held_version
  pub leased : guards t.state ≡ true → Leased (w.instance e.who).pairs w.time t.until t.len
  pub discharged : t.state ≡ Discharged → AnsweredBy c w.sent e.who t.far.who × HasClaim t.held t.flight
  pub heir : t.state ≡ Heir → SoundHeir c w e t.far t.len t.ripe
  pub heir_claims : t.state ≡ Heir → HasClaim t.held t.flight
  pub claims : HasClaim t.held t.flight → is_active t.state ≡ true
  pub parting : t.state ≡ Parting → IsEmpty t.held × (t.flight ≡ None)
  pub parted : t.state ≡ Parted → IsEmpty t.held × (t.flight ≡ None) × Closed w t.far e
  pub freed : is_engaged t.state ≡ true → guards t.state ≡ false → Freed c w e t.far
  -- a lease that rested on stamps no later than a moment does so still, if the acknowledgements that were sent do
  pub since : (moment : ℕ) → is_engaged s.state ≡ true → (guards s.state ≡ true → Leased (w.instance e.who).pairs moment s.until s.len) →
      ((stamp version : ℕ) → IsMember (RenewAck s.far e stamp version) w.sent → Rests (w.instance e.who).pairs moment stamp) →
      guards t.state ≡ true → Leased (w.instance e.who).pairs moment t.until t.len

pub record SentHello (e : End) (t : Slot) (from : End) (node len : ℕ) : Type 0 where
  pub own : from ≡ e
  pub asks_node : t.state ≡ Asking → t.far.who.actor ≡ node
  pub asks_length : t.state ≡ Asking → t.len ≡ len

pub record SentOffer (e : End) (t : Slot) (from to : End) (len : ℕ) : Type 0 where
  pub own : from ≡ e
  pub engaged : is_engaged t.state ≡ true
  pub far : t.far ≡ to
  pub length : t.len ≡ len

pub record SentTake (w : World) (e : End) (t : Slot) (from to : End) : Type 0 where
  pub own : from ≡ e
  pub engaged : is_engaged t.state ≡ true
  pub far : t.far ≡ to
  pub back : Tied w to e

pub record SentRenew (w : World) (e : End) (s : Slot) (from to : End) (stamp version got : ℕ) : Type 0 where
  pub own : from ≡ e
  pub far : to ≡ s.far
  pub sound : SoundRenew w e to stamp version got

pub record SentAck (w : World) (e : End) (s t : Slot) (from to : End) (stamp version : ℕ) : Type 0 where
  pub own : from ≡ e
  pub far : to ≡ s.far
  pub was_willing : is_willing s.state ≡ true
  pub willing : is_willing t.state ≡ true
  pub sound : SoundAck w e to stamp 0
  pub recorded : version ≤ t.held_version

pub record SentGone (w : World) (e : End) (t : Slot) (from to : End) (got : ℕ) : Type 0 where
  pub own : from ≡ e
  pub closed : ClosedTo to t.far t.state t.held t.flight
  pub took : (t.far ≡ to → t.got ≤ got) ⊎ Closed w to e
  pub used : is_used (slot w to).state ≡ true

pub record SentTransfer (c : Settings) (w : World) (e : End) (s : Slot) (out : Outcome) (from to : End) (number : ℕ) (part : Points) : Type 0 where
  pub own : from ≡ e
  pub far : to ≡ s.far
  pub tied : BothTied w e to
  pub transferable : Transferable c (w.instance to.who) out.token.next_flight (is_willing (slot w to).state) out.place out.slot.flight
      (slot w to).got e to number part

-- the frame is one that e may send with this outcome, s being its slot before
abbrev pub Sent : Settings → World → End → Slot → Outcome → Frame → Type 0
Sent c w e s out (Hello from node len) = SentHello e out.slot from node len
Sent c w e s out (Offer from to len) = SentOffer e out.slot from to len
Sent c w e s out (Take from to) = SentTake w e out.slot from to
Sent c w e s out (Renew from to stamp version got points) = SentRenew w e s from to stamp version got
Sent c w e s out (RenewAck from to stamp version) = SentAck w e s out.slot from to stamp version
Sent c w e s out (Transfer from to number part) = SentTransfer c w e s out from to number part
Sent c w e s out (Gone from to got bound) = SentGone w e out.slot from to got
Sent c w e s out (Accuse from victim) = same_who from victim ≡ false
Sent c w e s out (Ruled a to victim ruling) = ⊥
Sent c w e s out (RoundClaim from victim round) = IsOpen c w.sent victim round
Sent c w e s out (Kept a victim round claimer) = ⊥

-- versions, flights and freezes
pub record TokenDuty (w : World) (e : End) (s t : Slot) (token : Token) (sent : List Frame) : Type 0 where
  pub acked : t.acked ≤ (slot w t.far).held_version
  pub version : t.held_version ≤ (w.instance t.far.who).token.version
  pub got : t.got < (w.instance t.far.who).token.next_flight
  pub held_version_rises : s.held_version ≤ t.held_version
  pub got_rises : s.got ≤ t.got
  pub got_still : is_settled s.state ≡ true → is_willing s.state ≡ false → t.got ≡ s.got
  pub version_rises : (w.instance e.who).token.version ≤ token.version
  pub next_flight_rises : (w.instance e.who).token.next_flight ≤ token.next_flight
  pub flight : (l : Flight) → t.flight ≡ Some l → (s.flight ≡ Some l) ⊎ ((w.instance e.who).token.next_flight ≤ l.number)
  pub sound : (z : Freeze) → token.freeze ≡ Some z → SoundToken token z
  -- a freeze stood before, or is new while nothing else happens
  pub freeze : (z : Freeze) → token.freeze ≡ Some z →
      ((w.instance e.who).token.freeze ≡ Some z) ⊎ (((w.instance e.who).token.version < z.version) × (sent ≡ []) × (t ≡ s))
  -- the freezes at both sides of the session
  pub mine : is_engaged s.state ≡ true → (z : Freeze) → (w.instance e.who).token.freeze ≡ Some z → token.freeze ≡ Some z → Tied w s.far e →
      FrozenTo (sent ++ w.sent) e s.far z t.got t.acked (slot w s.far).flight (slot w s.far).held_version (slot w s.far).held
  pub theirs : is_engaged s.state ≡ true → (z : Freeze) → (w.instance s.far.who).token.freeze ≡ Some z → Tied w s.far e →
      FrozenTo (sent ++ w.sent) s.far e z (slot w s.far).got (slot w s.far).acked t.flight t.held_version t.held
  pub newly : is_engaged s.state ≡ false → Untouched t

-- where the points are
pub record PlaceDuty (c : Settings) (w : World) (e : End) (s t : Slot) (token : Token) (sent : List Frame) (place : ℕ → Place) : Type 0 where
  pub owned : (p : ℕ) → token.ranges p ≡ true → place p ≡ At e.who
  pub exact : (p : ℕ) → place p ≡ At e.who → token.ranges p ≡ true
  -- no live or unborn instance but e's loses a point, and none but e's gets one
  pub keeps : (y : Who) (p : ℕ) → same_who e.who y ≡ false → Live c (w.instance y) → w.place p ≡ At y → place p ≡ At y
  pub keeps_unborn : (y : Who) (p : ℕ) → (w.instance y).phase ≡ Unborn → w.place p ≡ At y → place p ≡ At y
  pub gets_none : (y : Who) (p : ℕ) → same_who e.who y ≡ false → place p ≡ At y → w.place p ≡ At y
  -- a point leaves a flight as its taker takes it, or as the giver's session or its taker is over
  pub flies : (g h : End) (number p : ℕ) → w.place p ≡ InFlight g h number → (place p ≡ InFlight g h number) ⊎ (BothTied w g e × (number ≤ t.got)) ⊎
      ((g ≡ e) × (Dead c (w.instance s.far.who) ⊎ Closed w s.far e))
  -- a point that flies did so before, or is given now
  pub flew : (g h : End) (number p : ℕ) → place p ≡ InFlight g h number → (w.place p ≡ InFlight g h number) ⊎
      ((g ≡ e) × ((w.instance e.who).token.next_flight ≤ number) × (number < token.next_flight))
  pub flight : (l : Flight) → t.flight ≡ Some l → SoundFlight token.next_flight place (slot w t.far).got e t.far l
  -- no claim is new, but for points that are e's
  pub mine : is_engaged s.state ≡ true → (p : ℕ) → Claim (sent ++ w.sent) e s.far t (slot w s.far).got p → Claim w.sent e s.far s (slot w s.far).got p
  pub theirs : is_engaged s.state ≡ true → (p : ℕ) → Claim (sent ++ w.sent) s.far e (slot w s.far) t.got p →
      Claim w.sent s.far e (slot w s.far) s.got p ⊎ (place p ≡ At e.who)
  -- a point that is claimed stays with its owner, or the claimant can never take over
  pub stays : (g f : End) (p : ℕ) → (slot w g).far ≡ f → (e ≡ g → Claim (sent ++ w.sent) e f t (slot w f).got p) →
      Claim w.sent g f (slot w g) (slot w f).got p →
      w.place p ≡ At f.who → (place p ≡ At f.who) ⊎ Barred c w.sent g.who f.who

-- all that a deed owes
pub record Duty (c : Settings) (w : World) (e : End) (next : ℕ) (out : Outcome) : Type 0 where
  pub fence : guards out.slot.state ≡ true → (w.instance e.who).reading < out.slot.until + c.answer
  pub link : LinkDuty c w e (slot w e) out.slot next
  pub sends : (f : Frame) → IsMember f out.sent → Sent c w e (slot w e) out f
  pub token : TokenDuty w e (slot w e) out.slot out.token out.sent
  pub place : PlaceDuty c w e (slot w e) out.slot out.token out.sent out.place

-- a deed of a live instance in a world that keeps the invariant
pub record Deeded (c : Settings) (w : World) (e : End) (next : ℕ) (out : Outcome) : Type 0 where
  pub inv : Invariant c w
  pub live : Live c (w.instance e.who)
  pub duty : Duty c w e next out
  -- no point leaves the ring
  pub inside : (p : ℕ) → out.place p ≡ Outside → w.place p ≡ Outside
