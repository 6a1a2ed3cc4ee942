-- When a ring shows an instance of the machine.
use Rattle.std.specs.Prelude.{◌≡◌, ℕ, Bool, true, false, List, [], Some, None}
use Rattle.ring_points.specs.declared.who.Who.{Who}
use Rattle.fabric_terms.specs.declared.config.FabricConfig.{FabricConfig}
use Rattle.join_phases.specs.Phases.{is_left}
use Rattle.token_core.specs.Laws.{IsRising}
use Rattle.token_core.specs.Tokens.{Freeze}
use Rattle.ring_rules.specs.declared.link.Link.{Link}
use Rattle.ring_rules.specs.declared.link.LinkState.TheVariants as state
use Rattle.ring_rules.specs.Rings.{Slots, Ring, no_slots}
use Rattle.ring_rules.specs.Slots.{slot_at}
use Rattle.fabric_lemmas.specs.Members.{IsMember}
use Rattle.ring_machine.specs.Frames.{Frame}
use Rattle.ring_machine.specs.World.{Instance, World, Running}
use Rattle.ring_refinement.specs.Images.{token_of}
use Rattle.ring_refinement.specs.Tables.{is_wronged, ShowsSlots}

-- the place of a freeze holds a bound link
pub record IsFrozenFor (slots : Slots) (place : ℕ) : Type 0 where
  pub link : Link
  pub at : slot_at place slots ≡ Some link
  pub bound : link.state ≡ state.Bound

-- the ring r of x, which has not left, against x's instance i, where these frames were sent
pub record ShowsInstance (c : FabricConfig) (x : Who) (sent : List Frame) (i : Instance) (r : Ring) : Type 0 where
  pub me : r.me ≡ x
  pub running : i.phase ≡ Running
  pub token : i.token ≡ token_of r.slots r.token
  pub next : i.next_session ≡ r.next_session
  pub slots : ShowsSlots c x sent r.slots r.next_session i.slots
  -- whom a slot accuses or accused is in the list
  pub accused : (number : ℕ) → is_wronged (i.slots number).state ≡ true → IsMember (i.slots number).far.who r.accused
  pub rises : IsRising r.token
  pub frozen : (z : Freeze) → r.token.freeze ≡ Some z → IsFrozenFor r.slots z.slot

-- the ring of x, which has left
pub record ShowsLeft (m : World) (x : Who) (r : Ring) : Type 0 where
  pub me : r.me ≡ x
  pub ranges : r.token.ranges ≡ []
  pub freeze : r.token.freeze ≡ None
  pub slots : r.slots ≡ no_slots
  pub stands_still : (m.instance x).phase ≡ Running → ⊥

abbrev pub ShowsAs : FabricConfig → World → Who → Ring → (has_left : Bool) → Type 0
ShowsAs c m x r true = ShowsLeft m x r
ShowsAs c m x r false = ShowsInstance c x m.sent (m.instance x) r

-- the ring is that of x, and shows x of the world m
abbrev pub Shows : FabricConfig → World → Who → Ring → Type 0
Shows c m x r = ShowsAs c m x r (is_left r.phase)
