-- The invariant holds of the empty world, each event keeps it, and so it holds after every valid history.
use Rattle.std.proofs.Common.{◌≡◌, ℕ, ◌<◌, true, false, List, [], ◌∷◌, None, refl, sym, ap, arith}
use Rattle.std.proofs.lemmas.Bool.{cond_both}
use Rattle.ring_points.specs.declared.who.Who.{Who}
use Rattle.ring_machine.specs.Points.{is_point, no_points}
use Rattle.ring_machine.specs.Ends.{End}
use Rattle.ring_machine.specs.Slots.{Unused, unused_slot}
use Rattle.ring_machine.specs.World.{Settings, World, Unborn, Left, Stopped, Place, At, InFlight, Outside, Live, first_of, has_clock, empty_world}
use Rattle.ring_machine.specs.Sessions.{Touched, flew, heard, took, was_heard}
use Rattle.ring_machine.specs.Claims.{ClaimBy, by_record, by_renew, by_flight}
use Rattle.ring_machine.specs.Events.{Event, Starts, Stops, Leaves, Again, Ticks, Answers, Keeps, Does, IsSound, Can, after, Valid, world_after}
use Rattle.ring_machine.specs.Frames.{Accuse, RoundClaim}
use Rattle.ring_machine.specs.Invariant.{Invariant}
use Rattle.ring_machine.proofs.Later.{Later}
use Rattle.ring_machine.proofs.Shrunk.{nothing_claimed}
use Rattle.ring_machine.proofs.DeedSteps.{deed_done}
use Rattle.ring_machine.proofs.Leaving.{left_keeps, left_later}
use Rattle.ring_machine.proofs.Returning.{back_keeps, back_later}
use Rattle.ring_machine.proofs.Ticking.{passed_keeps, passed_later}
use Rattle.ring_machine.proofs.Starting.{started_keeps, started_later}
use Rattle.ring_machine.proofs.Answering.{answered_keeps, answered_world_later}
use Rattle.ring_machine.proofs.Claiming.{claimed_keeps, claimed_later}

module _ (c : Settings) where
  -- the places of the empty world
  first_place : (p : ℕ) (P : Place → Type 0) → (is_point p ≡ true → P (At (first_of c))) → (is_point p ≡ false → P Outside) → P ((empty_world c).place p)
  first_place p P on off = cond_both (is_point p) (At (first_of c)) Outside P on off

  none_live : (x : Who) → Live c ((empty_world c).instance x) → ⊥
  none_live x l = let r = l.running in cc (r)

  none_claims : (e f : End) (p : ℕ) → ClaimBy [] e f Unused no_points 0 None 0 p → ⊥
  none_claims e f p (by_record h) = cc (h)
  none_claims e f p (by_renew h stamp version got points m lt r) = m
  none_claims e f p (by_flight l h le r) = cc (h)

  pub empty_sound : Invariant c (empty_world c)
  empty_sound = record {
    owned = λ x p l. absurd (none_live x l);
    exact = λ x p l. absurd (none_live x l);
    unborn_place = λ x p h.
        first_place p (λ o. o ≡ At x → (x ≡ first_of c) × (is_point p ≡ true)) (λ i j. let same : first_of c ≡ x = cc in (sym same, i))
        (λ i j. absurd (cc (j)));
    inside = λ p h. first_place p (λ o. o ≡ Outside → ⊥) (λ i j. cc (j)) (λ i j. cc (h, i));
    whole_ring = λ p h q. first_place p (λ o. o ≡ At (first_of c)) (λ i. refl) (λ i. absurd (cc (q, i)));
    not_started = λ x h. refl;
    no_zeroth = λ x h. refl;
    blank = λ x h. refl;
    clocks = λ x time reading h. absurd (cc (h));
    present = λ x h. absurd (cc (h));
    slots = λ e. record {
      numbered = λ h. absurd (cc (h));
      far_used = λ h. absurd (cc (h));
      apart = λ h. absurd (cc (h));
      touched = λ h. absurd (untouched h);
      bound = λ h. absurd (cc (h));
      asker = λ h. absurd (cc (h));
      agreed = λ h. absurd (cc (h));
      plain = λ h. (record { flight = refl; held_version = refl; got = refl; acked = refl }, λ p i. cc (i));
      recorded = λ p h. absurd (cc (h));
      leased = λ h. absurd (cc (h));
      discharged = λ h. absurd (cc (h));
      heir = λ h. absurd (cc (h));
      heir_claims = λ h. absurd (cc (h));
      claims = λ h. absurd (nothing_claimed h);
      parting = λ h. absurd (cc (h));
      parted = λ h. absurd (cc (h));
      acked = omega arith;
      version = omega arith;
      got = omega arith;
      freed = λ h. absurd (cc (h));
    };
    frames = λ f m. absurd m;
    single = λ e f who h. absurd (cc (h));
    backed = λ e f p far h. absurd (none_claims e f p h);
    flights = λ e f l far h stands. absurd (cc (h));
    flown = λ e f number p. first_place p (λ o. o ≡ InFlight e f number → number < 1) (λ i j. absurd (cc (j))) (λ i j. absurd (cc (j)));
    counted = λ x. omega arith;
    tokens = λ x z h. absurd (cc (h));
    freezes = λ f e z h. absurd (cc (h));
  }
    where
      untouched : Touched unused_slot → ⊥
      untouched (flew l h) = cc (h)
      untouched (heard h) = omega arith
      untouched (took h) = omega arith
      untouched (was_heard h) = omega arith

-- what an event leaves
pub record EventDone (c : Settings) (w v : World) : Type 0 where
  pub inv : Invariant c v
  pub later : Later c w v

pub event_done : {c : Settings} {w : World} → IsSound c → Invariant c w → (event : Event) → Can c w event → EventDone c w (after c w event)
event_done sound inv (Starts node reading) can = record { inv = started_keeps inv node reading; later = started_later inv node reading }
event_done {w = w} sound inv (Stops x) can = record {
  inv = left_keeps inv x Stopped born (λ h. cc (h)) (λ h. cc (h));
  later = left_later inv x Stopped born (λ h. cc (h)) (λ h. cc (h));
}
  where
    born : (w.instance x).phase ≡ Unborn → ⊥
    born h = cc (can, ap has_clock h)
event_done {w = w} sound inv (Leaves x) can = record {
  inv = left_keeps inv x Left born (λ h. cc (h)) (λ h. cc (h));
  later = left_later inv x Left born (λ h. cc (h)) (λ h. cc (h));
}
  where
    born : (w.instance x).phase ≡ Unborn → ⊥
    born h = cc (can, h)
event_done sound inv (Again x) can = record { inv = back_keeps inv x can; later = back_later inv x }
event_done sound inv (Ticks advance readings) can = record { inv = passed_keeps inv advance readings can; later = passed_later inv advance readings can }
event_done sound inv (Answers arbiter accuser victim) can =
    let apart = inv.frames (Accuse accuser victim) can in
    record { inv = answered_keeps inv arbiter accuser victim apart; later = answered_world_later inv arbiter accuser victim apart }
event_done sound inv (Keeps arbiter claimer victim round) can =
    let opened = inv.frames (RoundClaim claimer victim round) can in
    record { inv = claimed_keeps inv arbiter claimer victim round opened; later = claimed_later inv arbiter claimer victim round }
event_done sound inv (Does x deed) can = let d = deed_done sound inv x can.0 deed can.1 in record { inv = d.inv; later = d.later }

-- the invariant holds after every valid history
pub history_sound : (c : Settings) → IsSound c → (events : List Event) → Valid c events → Invariant c (world_after c events)
history_sound c sound [] valid = empty_sound c
history_sound c sound (event ∷ events) valid = (event_done sound (history_sound c sound events valid.1) event valid.0).inv
