-- A firing of a node's timer: each slot, a freeze that is ready, and the search for a place.
use Rattle.std.proofs.Common.{◌≡◌, ℕ, zero, suc, ◌+◌, nat_le, Bool, true, false, List, [], ◌∷◌, length, Option, Some, None, refl, sym, ap, subst, inl}
use Rattle.ring_points.specs.declared.who.Flight as points
use Rattle.ring_points.specs.declared.who.Who.{Who}
use Rattle.fabric_terms.specs.declared.config.FabricConfig.{FabricConfig}
use Rattle.join_phases.specs.Phases.{is_routing}
use Rattle.ring_route.specs.Routes.{near_nodes}
use Rattle.ring_rules.specs.declared.link.Link.{Link}
use Rattle.ring_rules.specs.declared.link.LinkState.{LinkState}
use Rattle.ring_rules.specs.declared.link.LinkState.TheVariants as state
use Rattle.ring_rules.specs.Deeds.{send, say_gone}
use Rattle.ring_rules.specs.Firing.{hello_due, lease_over, transfer_again, rounds_time, discharged_due, discharged_fired, fired_in, fired_at, slot_fired, slots_fired, freeze_given, seek_from, greet_all, search_by, place_sought, timer_fired}
use Rattle.ring_rules.specs.Handshakes.{greet_plainly}
use Rattle.ring_rules.specs.Links.{offer_body, renew_body}
use Rattle.ring_rules.specs.Rings.{Ring, Work, settings_of, slot_count}
use Rattle.ring_rules.specs.Slots.{slot_at, bars_link}
use Rattle.ring_rules.proofs.Rows.{discharged_fired-is, slot_fired-is, slots_fired-zero, slots_fired-suc, place_sought-is, timer_fired-is}
use Rattle.ring_machine.specs.Slots.{stands, is_tallying, is_decided}
use Rattle.ring_machine.specs.World.{World}
use Rattle.ring_machine.specs.Events.{IsSound}
use Rattle.ring_refinement.specs.Images.{machine_of, state_of}
use Rattle.ring_refinement.specs.Tables.{is_wronged}
use Rattle.ring_refinement.proofs.Going.{Going}
use Rattle.ring_refinement.proofs.Greetings.{greet_plainly_going, hello_dropped, offer_again_going}
use Rattle.ring_refinement.proofs.Saying.{hello_again_going, gone_again_going, flight_again_going, renew_going}
use Rattle.ring_refinement.proofs.Leaving.{Went, on, counted_went, then_went}
use Rattle.ring_refinement.proofs.Accusing.{ask_ring, asks_going, peer_accused_went}
use Rattle.ring_refinement.proofs.Rulings.{dropped_going}
use Rattle.ring_refinement.proofs.Claims.{claims_going}
use Rattle.ring_refinement.proofs.Quiet.{seek_place_going}
use Rattle.ring_refinement.proofs.Heirs.{heir_going}
use Rattle.ring_refinement.proofs.Giving.{freeze_given_went}

module _ {c : FabricConfig} {m : World} {x : Who} {now : ℕ} {w : Work} (sound : IsSound (machine_of c)) (node : ℕ) (g : Going c m x now w) where
  -- what is told of a slot, or the accusation of its peer
  lease_went : (i : ℕ) (l : Link) → slot_at i w.ring.slots ≡ Some l → stands (state_of l.state) ≡ true → bars_link l.state ≡ true → (says : Work → Work) →
      Going c m x now (says w) → (q : Bool) → Went c m x now (lease_over (settings_of c node) i l says w q)
  lease_went i l at standing bars says said true = peer_accused_went sound node g i l at standing bars
  lease_went i l at standing bars says said false = on said

  transfers : (i : ℕ) (l : Link) → slot_at i w.ring.slots ≡ Some l → l.state ≡ state.Bound → (o : Option points.Flight) → l.flight ≡ o → Going c m x now (transfer_again l o w)
  transfers i l at is None e = g
  transfers i l at is (Some f) e = flight_again_going sound g i l at is f e

  discharged_going : (i : ℕ) (l : Link) → slot_at i w.ring.slots ≡ Some l → l.state ≡ state.Discharged → Going c m x now (discharged_fired (settings_of c node) now i l w)
  discharged_going i l at is =
      subst (λ (u : Work). Going c m x now u) (sym (discharged_fired-is (settings_of c node) now i l w)) (go (nat_le (l.until + c.answer + rounds_time (settings_of c node) l) now))
    where
      go : (q : Bool) → Going c m x now (discharged_due (settings_of c node) i l w q)
      go true = dropped_going sound node g i l at (ap (λ s. is_wronged (state_of s)) is) (inl (ap (λ s. is_decided (state_of s)) is))
      go false =
          claims_going sound node (asks_going sound node g i l at (ap (λ s. is_tallying (state_of s)) is)) i l
          (subst (λ (r : Ring). slot_at i r.slots ≡ Some l) (sym (ask_ring (length c.arbiters) l w)) at) is

module _ {c : FabricConfig} {m : World} {x : Who} {now : ℕ} {w : Work} (sound : IsSound (machine_of c)) (node : ℕ) (g : Going c m x now w) where
  -- one slot
  fired_went : (i : ℕ) (l : Link) → slot_at i w.ring.slots ≡ Some l → (s : LinkState) → l.state ≡ s → Went c m x now (fired_in (settings_of c node) now i l s w)
  fired_went i l at state.Hello is = go (nat_le l.until now)
    where
      go : (q : Bool) → Went c m x now (hello_due i l w q)
      go true = on (hello_dropped sound node g i l at is)
      go false = on (hello_again_going sound g i l at is)
  fired_went i l at state.Offered is =
      lease_went sound node g i l at (ap (λ s. stands (state_of s)) is) (ap bars_link is) (λ u. send l.peer (offer_body l) u) (offer_again_going sound node g i l at is) (nat_le l.until now)
  fired_went i l at state.Bound is =
      let renewed = renew_going sound g i l at is in
      lease_went sound node g i l at (ap (λ s. stands (state_of s)) is) (ap bars_link is)
      (λ u. transfer_again l l.flight (send l.peer (renew_body now l u.ring) u))
      (transfers sound node renewed i l at is l.flight refl) (nat_le l.until now)
  fired_went i l at state.Parting is =
      lease_went sound node g i l at (ap (λ s. stands (state_of s)) is) (ap bars_link is) (say_gone l) (gone_again_going sound g i l at is) (nat_le l.until now)
  fired_went i l at state.Accused is = on (asks_going sound node g i l at (ap (λ s. is_tallying (state_of s)) is))
  fired_went i l at state.Discharged is = on (discharged_going sound node g i l at is)
  fired_went i l at state.Heir is = on (heir_going sound node g i l at is (nat_le l.ripe now) refl)

  slot_fired_went : (i : ℕ) → Went c m x now (slot_fired (settings_of c node) now i w)
  slot_fired_went i =
      subst (λ (u : Work). Went c m x now u) (sym (slot_fired-is (settings_of c node) now i w)) (counted_went sound g (go (slot_at i w.ring.slots) refl))
    where
      go : (o : Option Link) → slot_at i w.ring.slots ≡ o → Went c m x now (fired_at (settings_of c node) now i o w)
      go None at = on g
      go (Some l) at = fired_went i l at l.state refl

-- each of the nodes is greeted
greets_all : {c : FabricConfig} {m : World} {x : Who} {now : ℕ} → IsSound (machine_of c) → (node : ℕ) → (nodes : List ℕ) → (w : Work) → Going c m x now w →
    Going c m x now (greet_all (settings_of c node) now nodes w)
greets_all sound node [] w g = g
greets_all {c = c} {m = m} {x = x} {now = now} sound node (n ∷ nodes) w g =
    greets_all sound node nodes (greet_plainly (settings_of c node) now n w) (greet_plainly_going sound node g n)

place_sought_went : {c : FabricConfig} {m : World} {x : Who} {now : ℕ} {w : Work} → IsSound (machine_of c) → (node : ℕ) → Going c m x now w →
    Went c m x now (place_sought (settings_of c node) now w)
place_sought_went {c = c} {m = m} {x = x} {now = now} {w = w} sound node g =
    subst (λ (u : Work). Went c m x now u) (sym (place_sought-is (settings_of c node) now w)) (counted_went sound g (on (go (is_routing w.ring.phase))))
  where
    asks : (o : Option ℕ) → Going c m x now (seek_from o w)
    asks None = g
    asks (Some member) = seek_place_going sound g member

    go : (q : Bool) → Going c m x now (search_by (settings_of c node) now w q)
    go true = greets_all sound node (near_nodes w.ring.routes c.near w.ring.accused) w g
    go false = asks w.ring.target

-- the first k slots
slots_went : {c : FabricConfig} {m : World} {x : Who} {now : ℕ} {w : Work} → IsSound (machine_of c) → (node k : ℕ) → Going c m x now w →
    Went c m x now (slots_fired (settings_of c node) now k w)
slots_went {c = c} {m = m} {x = x} {now = now} {w = w} sound node zero g = subst (λ (u : Work). Went c m x now u) (sym (slots_fired-zero (settings_of c node) now w)) (on g)
slots_went {c = c} {m = m} {x = x} {now = now} {w = w} sound node (suc k) g =
    subst (λ (u : Work). Went c m x now u) (sym (slots_fired-suc (settings_of c node) now k w))
    (then_went (slot_fired (settings_of c node) now k) (slots_went sound node k g) (λ h. slot_fired_went sound node h k))

pub timer_went : {c : FabricConfig} {m : World} {x : Who} {now : ℕ} {w : Work} → IsSound (machine_of c) → (node : ℕ) → Going c m x now w →
    Went c m x now (timer_fired (settings_of c node) now w)
timer_went {c = c} {m = m} {x = x} {now = now} {w = w} sound node g =
    subst (λ (u : Work). Went c m x now u) (sym (timer_fired-is (settings_of c node) now w))
    (then_went (place_sought (settings_of c node) now)
    (then_went freeze_given (slots_went sound node slot_count g) (λ h. freeze_given_went sound node h)) (λ h. place_sought_went sound node h))
