-- The invariant on each slot.
use Rattle.std.specs.Prelude.{◌≡◌, ℕ, ◌<◌, ◌≤◌, true, false, None}
use Rattle.ring_points.specs.Whos.{same_who}
use Rattle.ring_machine.specs.Ends.{End}
use Rattle.ring_machine.specs.Slots.{Slot, Asking, Bound, Parting, Discharged, Heir, Parted, HasClaim, guards, is_used, is_engaged, is_active}
use Rattle.ring_machine.specs.World.{Settings, World, slot}
use Rattle.ring_machine.specs.Arbitration.{AnsweredBy}
use Rattle.ring_machine.specs.Sessions.{Tied, Touched, Untouched, IsEmpty, Closed}
use Rattle.ring_machine.specs.Leases.{Leased, SoundHeir}

-- how a slot with a session came to guard no more: a majority answered, or the far end claims nothing any more
pub data Freed (c : Settings) (w : World) (e far : End) : Type 0 where
  by_answers : AnsweredBy c w.sent e.who far.who → Freed c w e far
  by_closing : Closed w far e → Freed c w e far

-- the slot asks this node for a session, and for a length that is no shorter
pub record AsksFor (asker : Slot) (node len : ℕ) : Type 0 where
  pub node_is : asker.far.who.actor ≡ node
  pub no_shorter : len ≤ asker.len

-- s is the slot of e
pub record SoundSlot (c : Settings) (w : World) (e : End) (s : Slot) : Type 0 where
  -- a used number is below the counter
  pub numbered : is_used s.state ≡ true → e.number < (w.instance e.who).next_session
  -- the far end of a session has a slot, of another instance
  pub far_used : is_engaged s.state ≡ true → is_used (slot w s.far).state ≡ true
  pub apart : is_engaged s.state ≡ true → same_who e.who s.far.who ≡ false
  -- the far end is tied back where content came or went, and where both sides are bound
  pub touched : Touched s → Tied w s.far e
  pub bound : s.state ≡ Bound → Tied w s.far e
  -- a far end that asks still has asked for what the session is
  pub asker : is_engaged s.state ≡ true → (slot w s.far).state ≡ Asking → AsksFor (slot w s.far) e.who.actor s.len
  -- both sides of a session have one lease length
  pub agreed : is_engaged s.state ≡ true → Tied w s.far e → s.len ≡ (slot w s.far).len
  -- without a session there is no content
  pub plain : is_engaged s.state ≡ false → Untouched s × IsEmpty s.held
  -- a record comes from a Renew
  pub recorded : (p : ℕ) → s.held p ≡ true → 0 < s.held_version
  -- a lease rests on a stamp of the own clock
  pub leased : guards s.state ≡ true → Leased (w.instance e.who).pairs w.time s.until s.len
  -- whom a majority has answered, and who has something to take over, is discharged
  pub discharged : s.state ≡ Discharged → AnsweredBy c w.sent e.who s.far.who × HasClaim s.held s.flight
  -- an heir has something to take over, and its wait covers the other's lease
  pub heir : s.state ≡ Heir → SoundHeir c w e s.far s.len s.ripe
  pub heir_claims : s.state ≡ Heir → HasClaim s.held s.flight
  -- only an open session claims
  pub claims : HasClaim s.held s.flight → is_active s.state ≡ true
  pub parting : s.state ≡ Parting → IsEmpty s.held × (s.flight ≡ None)
  pub parted : s.state ≡ Parted → IsEmpty s.held × (s.flight ≡ None) × Closed w s.far e
  -- what is acknowledged was recorded; what is recorded was announced; what was taken was given
  pub acked : s.acked ≤ (slot w s.far).held_version
  pub version : s.held_version ≤ (w.instance s.far.who).token.version
  pub got : s.got < (w.instance s.far.who).token.next_flight
  pub freed : is_engaged s.state ≡ true → guards s.state ≡ false → Freed c w e s.far
