-- The invariant: what holds of the world after every valid history.
use Rattle.std.specs.Prelude.{◌≡◌, ℕ, ◌<◌, true, Some}
use Rattle.ring_points.specs.declared.who.Who.{Who}
use Rattle.fabric_lemmas.specs.Members.{IsMember}
use Rattle.ring_machine.specs.Points.{is_point}
use Rattle.ring_machine.specs.Ends.{End}
use Rattle.ring_machine.specs.Slots.{Flight, is_active}
use Rattle.ring_machine.specs.Tokens.{Freeze}
use Rattle.ring_machine.specs.Frames.{Frame}
use Rattle.drift_clock.specs.Within.{Within}
use Rattle.ring_machine.specs.World.{Settings, World, Unborn, Running, At, InFlight, Outside, Live, slot, unborn}
use Rattle.ring_machine.specs.Sessions.{BothTied}
use Rattle.ring_machine.specs.Claims.{Claim, Backed}
use Rattle.ring_machine.specs.SoundSlots.{SoundSlot}
use Rattle.ring_machine.specs.SoundFrames.{SoundFrame}
use Rattle.ring_machine.specs.SoundFlights.{Lost, SoundFlight, SoundToken, SoundFreeze}

pub record Invariant (c : Settings) (w : World) : Type 0 where
  -- a live instance owns exactly the points that are at it
  pub owned : (x : Who) (p : ℕ) → Live c (w.instance x) → (w.instance x).token.ranges p ≡ true → w.place p ≡ At x
  pub exact : (x : Who) (p : ℕ) → Live c (w.instance x) → w.place p ≡ At x → (w.instance x).token.ranges p ≡ true
  -- of those that have not started, only the one that is to begin with the whole ring has points: all, as long as it has not started
  pub unborn_place : (x : Who) (p : ℕ) → (w.instance x).phase ≡ Unborn → w.place p ≡ At x → (x ≡ w.whole) × (is_point p ≡ true)
  pub whole_ring : (p : ℕ) → (w.instance w.whole).phase ≡ Unborn → is_point p ≡ true → w.place p ≡ At w.whole
  -- every point of the ring is at an instance, or on its way
  pub inside : (p : ℕ) → is_point p ≡ true → w.place p ≡ Outside → ⊥
  -- instances above the count of starts have not started
  pub not_started : (x : Who) → w.starts x.actor < x.instance → (w.instance x).phase ≡ Unborn
  -- instances are counted from 1
  pub no_zeroth : (x : Who) → x.instance ≡ 0 → (w.instance x).phase ≡ Unborn
  pub blank : (x : Who) → (w.instance x).phase ≡ Unborn → w.instance x ≡ unborn
  -- a running clock keeps its bound between each of its readings and the present one
  pub clocks : (x : Who) (time reading : ℕ) → (w.instance x).phase ≡ Running → IsMember (time, reading) (w.instance x).pairs →
      Within c.bound (time, reading) (w.time, (w.instance x).reading)
  pub present : (x : Who) → (w.instance x).phase ≡ Running → IsMember (w.time, (w.instance x).reading) (w.instance x).pairs
  -- each slot and each frame is sound
  pub slots : (e : End) → SoundSlot c w e (slot w e)
  pub frames : (f : Frame) → IsMember f w.sent → SoundFrame c w f
  -- an instance has one open session at most with another
  pub single : (e f : End) → e.who ≡ f.who → is_active (slot w e).state ≡ true → is_active (slot w f).state ≡ true →
      (slot w e).far.who ≡ (slot w f).far.who → e ≡ f
  -- each claim is backed
  pub backed : (e f : End) (p : ℕ) → (slot w e).far ≡ f → Claim w.sent e f (slot w e) (slot w f).got p → Backed c w e.who f.who p
  -- flights that are not lost, their numbers, and freezes
  pub flights : (e f : End) (l : Flight) → (slot w e).far ≡ f → (slot w e).flight ≡ Some l → (Lost c w e f → ⊥) →
      SoundFlight (w.instance e.who).token.next_flight w.place (slot w f).got e f l
  pub flown : (e f : End) (number p : ℕ) → w.place p ≡ InFlight e f number → number < (w.instance e.who).token.next_flight
  pub counted : (x : Who) → 0 < (w.instance x).token.next_flight
  pub tokens : (x : Who) (z : Freeze) → (w.instance x).token.freeze ≡ Some z → SoundToken (w.instance x).token z
  pub freezes : (f e : End) (z : Freeze) → (w.instance f.who).token.freeze ≡ Some z → BothTied w f e → SoundFreeze w f e z
