-- The invariant on leases: on which stamp each promise rests, and what an heir knows of the accused one's clock.
use Rattle.std.specs.Prelude.{◌≡◌, ℕ, ◌+◌, ◌≤◌, true, List}
use Rattle.fabric_lemmas.specs.Members.{IsMember}
use Rattle.ring_machine.specs.Ends.{End}
use Rattle.ring_machine.specs.Slots.{guards}
use Rattle.ring_machine.specs.Frames.{RenewAck}
use Rattle.drift_clock.specs.Wait.{heir_wait}
use Rattle.ring_machine.specs.World.{Settings, World, slot}
use Rattle.ring_machine.specs.Arbitration.{AnsweredBy, HeirBy}

-- the stamp is a reading of this clock, taken no later than the moment
pub record Rests (pairs : List (ℕ × ℕ)) (moment stamp : ℕ) : Type 0 where
  pub taken : ℕ
  pub reading : IsMember (taken, stamp) pairs
  pub no_later : taken ≤ moment

-- until is at most a lease length past a stamp that was taken no later than the moment
pub record Leased (pairs : List (ℕ × ℕ)) (moment until len : ℕ) : Type 0 where
  pub stamp : ℕ
  pub rests : Rests pairs moment stamp
  pub within : until ≤ stamp + len

-- e is the heir of f's instance since a moment: each lease of f, and each acknowledgement that can prolong it,
-- rests on a stamp that is no later
pub record SoundHeir (c : Settings) (w : World) (e f : End) (len ripe : ℕ) : Type 0 where
  pub answered : AnsweredBy c w.sent e.who f.who
  pub keeps : HeirBy c w.sent e.who f.who
  pub since : ℕ
  pub begun : ℕ
  pub reading : IsMember (since, begun) (w.instance e.who).pairs
  pub waits : ripe ≡ begun + heir_wait c.bound len c.answer
  pub lease : guards (slot w f).state ≡ true → Leased (w.instance f.who).pairs since (slot w f).until (slot w f).len
  pub acks : (stamp version : ℕ) → IsMember (RenewAck e f stamp version) w.sent → Rests (w.instance f.who).pairs since stamp
