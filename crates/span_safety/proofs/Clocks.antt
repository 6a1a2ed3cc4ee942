-- The clock of a running instance: its readings are within the bound, and no lease that counts reaches further than one lease
-- length from the present one.
use Rattle.std.proofs.Common.{◌≡◌, ℕ, ◌+◌, ◌≤◌, Bool, true, false, List, Some, refl, sym, ap, ◌∙◌, subst, arith}
use Rattle.cold_start.specs.Lives.{Lives, ValidLives, lives_world}
use Rattle.drift_clock.specs.Within.{Pair, Within}
use Rattle.fabric_lemmas.specs.Maps.{at}
use Rattle.fabric_lemmas.specs.Members.{IsMember}
use Rattle.fabric_terms.specs.declared.config.FabricConfig.{FabricConfig}
use Rattle.fabric_terms.specs.Sound.{IsSound}
use Rattle.join_phases.specs.Phases.{is_left}
use Rattle.ring_machine.specs.Ends.{end_of}
use Rattle.ring_machine.specs.Leases.{Leased}
use Rattle.ring_machine.specs.Slots as slots
use Rattle.ring_machine.specs.Slots.{Slot}
use Rattle.ring_machine.specs.World as machine
use Rattle.ring_refinement.specs.Images.{slot_of, state_of}
use Rattle.ring_refinement.specs.Shown.{ShowsAs, ShowsInstance}
use Rattle.ring_rules.specs.declared.link.Link.{Link}
use Rattle.ring_rules.specs.declared.link.LinkState.{LinkState}
use Rattle.ring_rules.specs.declared.link.LinkState.TheVariants as state
use Rattle.ring_rules.specs.Slots.{guards, slot_at}
use Rattle.ring_safety.proofs.Followed.{followed}
use Rattle.ring_safety.proofs.Follows.{Follows, ShowsClock, sound_machine}
use Rattle.ring_safety.proofs.Tales.{Tale, tale_of}
use Rattle.world_rules.specs.Above.{StaysAbove}
use Rattle.world_rules.specs.Uppers.{Upper}
use Rattle.world_rules.specs.Worlds.{World, Running}

-- the machine's slot counts where the link does
counts_there : (s : LinkState) → slots.guards (state_of s) ≡ guards s
counts_there state.Hello = refl
counts_there state.Offered = refl
counts_there state.Bound = refl
counts_there state.Parting = refl
counts_there state.Accused = refl
counts_there state.Discharged = refl
counts_there state.Heir = refl

-- what the machine says of a running instance that has not left
pub record Timed {a : Upper} (c : FabricConfig) (w : World a) (s : Running a) : Type 0 where
  pub within : (time reading : ℕ) → IsMember (time, reading) s.pairs → Within c.bound (time, reading) (w.time, s.reading)
  pub present : IsMember (w.time, s.reading) s.pairs
  pub leased : (i : ℕ) (l : Link) → slot_at i s.node.ring.slots ≡ Some l → guards l.state ≡ true → l.until ≤ s.reading + l.len

module _ {a : Upper} (c : FabricConfig) (w : World a) (t : Tale) (m : machine.World) (f : Follows c w t m) (s : Running a)
    (clock : ShowsClock (m.instance s.node.ring.me) s.reading s.pairs) (i : ShowsInstance c s.node.ring.me m.sent (m.instance s.node.ring.me) s.node.ring) where
  within_there : (time reading : ℕ) → IsMember (time, reading) s.pairs → Within c.bound (time, reading) (w.time, s.reading)
  within_there time reading k =
      subst (Within c.bound (time, reading)) (λ j. (f.time j, clock.reads j))
      (f.inv.clocks s.node.ring.me time reading i.running (subst (IsMember (time, reading)) (sym clock.read) k))

  leased_there : (j : ℕ) (l : Link) → slot_at j s.node.ring.slots ≡ Some l → guards l.state ≡ true → l.until ≤ s.reading + l.len
  leased_there j l there g =
      let shown : (m.instance s.node.ring.me).slots l.mine ≡ slot_of l = i.slots.kept j l there in
      let counts : slots.guards ((m.instance s.node.ring.me).slots l.mine).state ≡ true = ap (λ (z : Slot). slots.guards z.state) shown ∙ (counts_there l.state ∙ g) in
      let lease : Leased (m.instance s.node.ring.me).pairs m.time l.until l.len =
      subst (λ (z : Slot). Leased (m.instance s.node.ring.me).pairs m.time z.until z.len) shown ((f.inv.slots (end_of s.node.ring.me l.mine)).leased counts) in
      let old = (within_there lease.rests.taken lease.stamp (subst (IsMember (lease.rests.taken, lease.stamp)) clock.read lease.rests.reading)).readings in
      let le = lease.within in
      omega arith

  timed_there : Timed c w s
  timed_there = record {
    within = within_there;
    present = subst (λ (z : Pair × List Pair). IsMember z.0 z.1) (λ j. ((f.time j, clock.reads j), clock.read j)) (f.inv.present s.node.ring.me i.running);
    leased = leased_there;
  }

pub timed : (a : Upper) → StaysAbove a → (is_frame : List ℕ → Bool) (c : FabricConfig) → IsSound c → (l : Lives) → ValidLives a is_frame c l →
    (node : ℕ) (s : Running a) → at node (lives_world a c l).nodes ≡ Some s → is_left s.node.ring.phase ≡ false → Timed c (lives_world a c l) s
timed a stays is_frame c sound l valid node s there left =
    let m = followed a stays is_frame c (sound_machine c sound) l valid in
    at_machine m.world m.follows
  where
    as_shown : (m : machine.World) (b : Bool) → b ≡ false → ShowsAs c m s.node.ring.me s.node.ring b → ShowsInstance c s.node.ring.me m.sent (m.instance s.node.ring.me) s.node.ring
    as_shown m false e i = i
    as_shown m true e i = absurd (cc (e))

    at_machine : (m : machine.World) → Follows c (lives_world a c l) (tale_of a c l) m → Timed c (lives_world a c l) s
    at_machine m f = timed_there c (lives_world a c l) (tale_of a c l) m f s (f.clock node s there left) (as_shown m (is_left s.node.ring.phase) left (f.shows node s there))
