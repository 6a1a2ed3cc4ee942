-- Who holds a point by its reports is live on the machine and owns the point there.
use Rattle.std.proofs.Common.{◌≡◌, ℕ, zero, suc, ◌+◌, ◌<◌, Bool, true, false, [], ◌∷◌, Option, Some, None, refl, sym, ap, ◌∙◌, subst, ⊎_elim, arith}
use Rattle.std.proofs.lemmas.Bool.{both_ways}
use Rattle.fabric_terms.specs.declared.config.FabricConfig.{FabricConfig}
use Rattle.fabric_terms.specs.Runs.{Run, Owned, IsBelow, own_of}
use Rattle.join_phases.specs.Phases.{is_left}
use Rattle.ring_points.specs.declared.who.Who.{Who}
use Rattle.ring_points.specs.Ranges.{in_ranges}
use Rattle.ring_machine.specs.Slots as slots
use Rattle.ring_machine.specs.Slots.{Slot}
use Rattle.ring_machine.specs.World as machine
use Rattle.ring_machine.specs.World.{Live, Running}
use Rattle.ring_machine.proofs.States.{excluded}
use Rattle.ring_refinement.specs.Images.{machine_of, slot_of, state_of}
use Rattle.ring_refinement.specs.Shown.{ShowsAs, ShowsInstance}
use Rattle.ring_refinement.specs.Tables.{Has, is_over}
use Rattle.ring_rules.specs.declared.link.Link.{Link}
use Rattle.ring_rules.specs.declared.link.LinkState.{LinkState}
use Rattle.ring_rules.specs.declared.link.LinkState.TheVariants as state
use Rattle.ring_rules.specs.Rings.{Ring, Slots}
use Rattle.ring_rules.specs.Slots.{fence_if, fence_of, guards, slot_at}
use Rattle.fabric_lemmas.specs.Maps.{at}
use Rattle.world_rules.specs.Uppers.{Upper}
use Rattle.world_rules.specs.Worlds as real
use Rattle.world_rules.specs.Worlds.{World}
use Rattle.run_facts.specs.Held.{owned_by}
use Rattle.run_facts.proofs.Clocks.{Reads}
use Rattle.ring_safety.proofs.Follows.{Follows, ShowsClock}
use Rattle.run_facts.proofs.Orderly.{Orderly}
use Rattle.ring_safety.proofs.Tales.{Tale}

-- a reading below the fence is below the end of each lease that counts
below_each : (answer reading : ℕ) (ss : Slots) → IsBelow reading (fence_of answer ss) → (i : ℕ) (l : Link) → slot_at i ss ≡ Some l →
    guards l.state ≡ true → reading < l.until + answer
below_each answer reading [] below i l there g = absurd (cc (there))
below_each answer reading (None ∷ ss) below zero l there g = absurd (cc (there))
below_each answer reading (None ∷ ss) below (suc i) l there g = below_each answer reading ss below i l there g
below_each answer reading (Some k ∷ ss) below i l there g = go i (guards k.state) refl (fence_of answer ss) below there (λ rest j. below_each answer reading ss rest j l)
  where
    go : (i : ℕ) (b : Bool) → guards k.state ≡ b → (o : Option ℕ) → IsBelow reading (fence_if b (k.until + answer) o) →
        slot_at i (Some k ∷ ss) ≡ Some l →
        (IsBelow reading o → (j : ℕ) → slot_at j ss ≡ Some l → guards l.state ≡ true → reading < l.until + answer) → reading < l.until + answer
    go zero true e None lt at again = let same : k ≡ l = cc (at) in subst (λ (z : Link). reading < z.until + answer) same lt
    go zero true e (Some other) lt at again = let same : k ≡ l = cc (at) in subst (λ (z : Link). reading < z.until + answer) same (omega arith)
    go zero false e o lt at again = let same : k ≡ l = cc (at) in absurd (both_ways (guards l.state) (sym (ap (λ (z : Link). guards z.state) same) ∙ e) g)
    go (suc i) true e None lt at again = again tt i at g
    go (suc i) true e (Some other) lt at again = again (omega arith) i at g
    go (suc i) false e o lt at again = again lt i at g

-- the machine's slot counts where the link does
same_guards : (s : LinkState) → slots.guards (state_of s) ≡ guards s
same_guards state.Hello = refl
same_guards state.Offered = refl
same_guards state.Bound = refl
same_guards state.Parting = refl
same_guards state.Accused = refl
same_guards state.Discharged = refl
same_guards state.Heir = refl

-- a ring below its fence shows a live instance
pub live_below : (c : FabricConfig) (m : machine.World) (x : Who) (r : Ring) (reading : ℕ) → ShowsInstance c x m.sent (m.instance x) r →
    (m.instance x).reading ≡ reading →
    IsBelow reading (fence_of c.answer r.slots) → Live (machine_of c) (m.instance x)
live_below c m x r reading s reads below = record {
  running = s.running;
  below = λ number g. ⊎_elim (λ over. absurd (excluded is_over slots.guards refl ((m.instance x).slots number).state over g)) (λ has. guarded number has g) (s.slots.over number);
}
  where
    guarded : (number : ℕ) → Has r.slots number → slots.guards ((m.instance x).slots number).state ≡ true →
        (m.instance x).reading < ((m.instance x).slots number).until + c.answer
    guarded number has g =
        let shown : (m.instance x).slots number ≡ slot_of has.link = ap (m.instance x).slots (sym has.numbered) ∙ s.slots.kept has.place has.link has.at in
        let counts : guards has.link.state ≡ true = sym (same_guards has.link.state) ∙ (sym (ap (λ (z : Slot). slots.guards z.state) shown) ∙ g) in
        let lt : reading < has.link.until + c.answer = below_each c.answer reading r.slots below has.place has.link has.at counts in
        subst (λ (z : Slot). (m.instance x).reading < z.until + c.answer) (sym shown) (subst (λ n. n < has.link.until + c.answer) (sym reads) lt)

-- a running instance that is seen below the fence that it told
pub record Seen {a : Upper} (c : FabricConfig) (w : World a) (x : Who) (o : Owned) : Type 0 where
  pub number : ℕ
  pub state : real.Running a
  pub here : at number w.nodes ≡ Some state
  pub name : state.node.ring.me ≡ x
  pub owned : o ≡ owned_by c state.node.ring
  pub below : IsBelow state.reading (fence_of c.answer state.node.ring.slots)

pub seen : {a : Upper} (c : FabricConfig) (w : World a) (run : Run) (x : Who) (o : Owned) (reading : ℕ) → Orderly c w run → Reads w.nodes x reading →
    own_of x run ≡ Some o → IsBelow reading o.fence → Seen c w x o
seen c w run x o reading orderly r own below =
    let last : own_of x run ≡ Some (owned_by c r.state.node.ring) =
    subst (λ y. own_of y run ≡ Some (owned_by c r.state.node.ring)) r.name (orderly.own r.number r.state r.here) in
    let same : o ≡ owned_by c r.state.node.ring = cc (own, last) in
    record {
      number = r.number;
      state = r.state;
      here = r.here;
      name = r.name;
      owned = same;
      below = subst (λ (z : ℕ × Owned). IsBelow z.0 z.1.fence) (λ i. (sym r.reads i, same i)) below;
    }

-- it has not left, so it is live on the machine, and owns there what it told
pub record LivesThere (c : FabricConfig) (m : machine.World) (x : Who) (o : Owned) : Type 0 where
  pub live : Live (machine_of c) (m.instance x)
  pub owns : (p : ℕ) → (m.instance x).token.ranges p ≡ in_ranges p o.ranges

pub lives : {a : Upper} (c : FabricConfig) (w : World a) (t : Tale) (m : machine.World) (x : Who) (o : Owned) → Follows c w t m → (s : Seen c w x o) →
    is_left s.state.node.ring.phase ≡ false → LivesThere c m x o
lives {a = a} c w t m x o f s stays = at_name (f.clock s.number s.state s.here stays) (go (is_left s.state.node.ring.phase) stays (f.shows s.number s.state s.here))
  where
    go : (b : Bool) → b ≡ false → ShowsAs c m s.state.node.ring.me s.state.node.ring b →
        ShowsInstance c s.state.node.ring.me m.sent (m.instance s.state.node.ring.me) s.state.node.ring
    go false e i = i
    go true e i = absurd (cc (e))

    at_name : ShowsClock (m.instance s.state.node.ring.me) s.state.reading s.state.pairs →
        ShowsInstance c s.state.node.ring.me m.sent (m.instance s.state.node.ring.me) s.state.node.ring → LivesThere c m x o
    at_name clock i = subst (λ y. LivesThere c m y o) s.name (record {
      live = live_below c m s.state.node.ring.me s.state.node.ring s.state.reading i clock.reads s.below;
      owns = λ p. (λ j. (i.token j).ranges p) ∙ sym (ap (λ (z : Owned). in_ranges p z.ranges) s.owned);
    })

-- who holds a point has not left
pub holder_stays : {a : Upper} (c : FabricConfig) (w : World a) (t : Tale) (m : machine.World) (x : Who) (o : Owned) (p : ℕ) → Follows c w t m →
    (s : Seen c w x o) →
    in_ranges p o.ranges ≡ true → is_left s.state.node.ring.phase ≡ false
holder_stays c w t m x o p f s has = go (is_left s.state.node.ring.phase) (f.shows s.number s.state s.here)
  where
    go : (b : Bool) → ShowsAs c m s.state.node.ring.me s.state.node.ring b → b ≡ false
    go false i = refl
    go true i =
        let none : in_ranges p o.ranges ≡ false = ap (λ (z : Owned). in_ranges p z.ranges) s.owned ∙ ap (in_ranges p) i.ranges in
        absurd (both_ways (in_ranges p o.ranges) none has)

pub holds_there : {a : Upper} (c : FabricConfig) (w : World a) (t : Tale) (m : machine.World) (x : Who) (o : Owned) (p : ℕ) → Follows c w t m →
    Seen c w x o →
    in_ranges p o.ranges ≡ true → machine.Holds (machine_of c) m x p
holds_there c w t m x o p f s has =
    let l = lives c w t m x o f s (holder_stays c w t m x o p f s has) in
    record { live = l.live; owned = l.owns p ∙ has }
