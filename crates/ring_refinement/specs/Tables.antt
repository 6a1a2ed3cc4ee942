-- The links of a ring against the slots of an instance of the machine.
use Rattle.std.specs.Prelude.{◌≡◌, ℕ, ◌<◌, Bool, true, false, List, length, Some, IsTrue, ◌==◌, ◌⊎◌}
use Rattle.ring_points.specs.declared.who.Ruling.{Ruling}
use Rattle.ring_points.specs.declared.who.Who.{Who}
use Rattle.ring_points.specs.Ranges.{rises_from}
use Rattle.fabric_terms.specs.declared.config.FabricConfig.{FabricConfig}
use Rattle.arbiter_quorum.specs.Counted.{are_counted}
use Rattle.arbiter_quorum.specs.Tallies.{Tally}
use Rattle.heir_rounds.specs.Rounds.{RoundTally}
use Rattle.ring_rules.specs.declared.link.Link.{Link}
use Rattle.ring_rules.specs.declared.link.LinkState.{LinkState}
use Rattle.ring_rules.specs.declared.link.LinkState.TheVariants as state
use Rattle.ring_rules.specs.Links.{flight_part}
use Rattle.ring_rules.specs.Rings.{Slots}
use Rattle.ring_rules.specs.Slots.{slot_at, is_hello, bars_link}
use Rattle.ring_machine.specs.Arbitration.{IsOpen}
use Rattle.fabric_lemmas.specs.Members.{IsMember}
use Rattle.ring_machine.specs.Slots.{Slot, State, Unused, Accused, Discharged, Heir, Abandoned, Parted, Ended, is_tallying}
use Rattle.ring_machine.specs.Frames.{Frame, Ruled, Kept}
use Rattle.ring_refinement.specs.Images.{machine_of, state_of, slot_of}

-- no slot of the table has the number any more, or not yet
abbrev pub is_over : State → Bool
is_over Unused = true
is_over Abandoned = true
is_over Parted = true
is_over Ended = true
is_over _ = false

-- its far end was accused
abbrev pub is_wronged : State → Bool
is_wronged Accused = true
is_wronged Discharged = true
is_wronged Heir = true
is_wronged Ended = true
is_wronged _ = false

-- it tells its lease length to the other side
abbrev pub is_proposing : LinkState → Bool
is_proposing state.Hello = true
is_proposing state.Offered = true
is_proposing _ = false

-- x's answers on the victim: each counts once, and was sent
pub record SoundTally (c : FabricConfig) (x victim : Who) (sent : List Frame) (t : Tally) : Type 0 where
  pub arbitrators : t.arbitrators ≡ length c.arbiters
  pub counted : IsTrue (are_counted t.arbitrators t.answers)
  pub each : (a : ℕ) (ruling : Ruling) → IsMember (a, ruling) t.answers → IsMember (Ruled a x victim ruling) sent

-- x's answers to the present round about the victim: each counts once, and was sent; the round may be claimed
pub record SoundRounds (c : FabricConfig) (x victim : Who) (sent : List Frame) (t : RoundTally) : Type 0 where
  pub me : t.me ≡ x
  pub arbitrators : t.arbitrators ≡ length c.arbiters
  pub counted : IsTrue (are_counted (length c.arbiters) t.answers)
  pub each : (a : ℕ) (z : Who) → IsMember (a, z) t.answers → IsMember (Kept a victim t.round z) sent
  pub is_open : IsOpen (machine_of c) sent victim t.round

-- what holds of each link of x
pub record SoundLink (c : FabricConfig) (x : Who) (sent : List Frame) (l : Link) : Type 0 where
  -- its points are lists of sets
  pub held : IsTrue (rises_from 0 l.held)
  pub part : IsTrue (rises_from 0 (flight_part l.flight))
  -- by frame version 1 it proposes the configured length
  pub length : is_proposing l.state ≡ true → l.wire == 2 ≡ false → l.len ≡ c.lease
  pub tally : is_tallying (state_of l.state) ≡ true → SoundTally c x l.peer sent l.tally
  pub rounds : is_tallying (state_of l.state) ≡ true → SoundRounds c x l.peer sent l.rounds

-- the table has a slot of this number
pub record Has (slots : Slots) (number : ℕ) : Type 0 where
  pub place : ℕ
  pub link : Link
  pub at : slot_at place slots ≡ Some link
  pub numbered : link.mine ≡ number

-- f has the instance's slots by their numbers, next is its next number
pub record ShowsSlots (c : FabricConfig) (x : Who) (sent : List Frame) (slots : Slots) (next : ℕ) (f : ℕ → Slot) : Type 0 where
  pub kept : (i : ℕ) (l : Link) → slot_at i slots ≡ Some l → f l.mine ≡ slot_of l
  -- own numbers are below the counter, and each is of one place
  pub below : (i : ℕ) (l : Link) → slot_at i slots ≡ Some l → l.mine < next
  pub once : (i j : ℕ) (l k : Link) → slot_at i slots ≡ Some l → slot_at j slots ≡ Some k → l.mine ≡ k.mine → i ≡ j
  -- a number that is in no slot is over
  pub over : (number : ℕ) → (is_over (f number).state ≡ true) ⊎ Has slots number
  -- beside a slot that greets a node, none bars a link with it
  pub alone : (i j : ℕ) (l k : Link) → slot_at i slots ≡ Some l → slot_at j slots ≡ Some k → is_hello l.state ≡ true →
      bars_link k.state ≡ true → l.peer.actor ≡ k.peer.actor → i ≡ j
  pub sound : (i : ℕ) (l : Link) → slot_at i slots ≡ Some l → SoundLink c x sent l
