-- Each deed that may be done does its duty, so the invariant is kept, and its instance stays live.
use Rattle.std.proofs.Common.{◌≡◌, ℕ, Bool, true, false, cond, refl, ap, ◌∙◌}
use Rattle.ring_points.specs.declared.who.Who.{Who}
use Rattle.ring_points.specs.Whos.{same_who}
use Rattle.ring_machine.specs.Ends.{End, end_of}
use Rattle.ring_machine.specs.Points.{Points}
use Rattle.ring_machine.specs.Slots.{Slot}
use Rattle.ring_machine.specs.Tokens.{Token}
use Rattle.ring_machine.specs.World.{Settings, Instance, World, Place, At, InFlight, Outside, Live, slot}
use Rattle.ring_machine.specs.Deeds.{SlotDeed, HelloAgain, HelloDropped, HelloDenied, OfferAgain, OfferTaken, TakeAgain, TakeHeard, RenewSent, RenewHeard, AckHeard, PartFrozen, PartGiven, FlightAgain, FlightTaken, FlightReturned, PartingBegun, GoneAgain, GoneHeard, UnknownDenied, PeerAccused, AccuseAgain, MajorityAnswered, MajorityKept, RoundClaimed, SessionDropped, TakenOver, Deed, HelloBegun, OfferBegun, InSlot}
use Rattle.ring_machine.specs.Guards.{MayInSlot, May}
use Rattle.ring_machine.specs.Effects.{Outcome, effect, moved, done, stepped}
use Rattle.ring_machine.specs.Events.{IsSound}
use Rattle.ring_machine.specs.Invariant.{Invariant}
use Rattle.ring_machine.proofs.Later.{Later, later_refl, later_trans}
use Rattle.ring_machine.proofs.Duty.{Duty, Deeded}
use Rattle.ring_machine.proofs.Stepped.{own_instance, other_instance, later}
use Rattle.ring_machine.proofs.SteppedKeeps.{keeps, stays_live}
use Rattle.ring_machine.proofs.Acting.{Acting}
use Rattle.ring_machine.proofs.SendDuties.{hello_again, offer_again, take_again, flight_again, gone_again, accuse_again, round_claimed, unknown_denied}
use Rattle.ring_machine.proofs.HandshakeDuties.{hello_begun_duty, offer_begun_duty, offer_taken_duty, hello_dropped_duty, hello_denied_duty, take_heard_duty}
use Rattle.ring_machine.proofs.AckDuties.{ack_heard_duty}
use Rattle.ring_machine.proofs.RenewDuties.{renew_sent_duty}
use Rattle.ring_machine.proofs.HearDuties.{renew_heard_duty}
use Rattle.ring_machine.proofs.PartDuties.{parting_begun_duty, gone_heard_duty}
use Rattle.ring_machine.proofs.AccuseDuties.{peer_accused_duty, majority_answered_duty, majority_kept_duty, session_dropped_duty}
use Rattle.ring_machine.proofs.GiveDuties.{part_frozen_duty, part_given_duty}
use Rattle.ring_machine.proofs.TakeDuties.{flight_taken_duty, flight_returned_duty}
use Rattle.ring_machine.proofs.TakeOverDuty.{taken_over_duty}

module _ {c : Settings} {w : World} {e : End} (sound : IsSound c) (a : Acting c w e) where
  pub slot_duty : (deed : SlotDeed) → MayInSlot c w e (w.instance e.who).reading (slot w e) (w.instance e.who).token deed →
      Duty c w e (w.instance e.who).next_session (effect c e (w.instance e.who).reading (slot w e) (w.instance e.who).token w.place deed)
  slot_duty HelloAgain may = hello_again a may
  slot_duty HelloDropped may = hello_dropped_duty a may
  slot_duty (HelloDenied from got bound) may = hello_denied_duty a may.0 from got bound may.1
  slot_duty OfferAgain may = offer_again a may
  slot_duty (OfferTaken from len) may = offer_taken_duty a sound.answer may.0 from len may.1 may.2
  slot_duty TakeAgain may = take_again a may
  slot_duty TakeHeard may = take_heard_duty a may.0 may.1
  slot_duty RenewSent may = renew_sent_duty a may
  slot_duty (RenewHeard stamp version got points) may = renew_heard_duty a may.0 stamp version got points may.1
  slot_duty (AckHeard stamp version) may = ack_heard_duty a may.0 stamp version may.1
  slot_duty (PartFrozen part) may = part_frozen_duty a may.0 may.1 part
  slot_duty (PartGiven freeze) may = part_given_duty a may.0 freeze may.1 may.2
  slot_duty (FlightAgain flight) may = flight_again a may.0 flight may.1
  slot_duty (FlightTaken number part) may = flight_taken_duty a may.0 number part may.1 may.2
  slot_duty (FlightReturned flight got bound) may = flight_returned_duty a may.0 flight got bound may.1 may.2 may.3
  slot_duty PartingBegun may = parting_begun_duty a may.0 may.1
  slot_duty GoneAgain may = gone_again a may
  slot_duty (GoneHeard got bound) may = gone_heard_duty a may.0 got bound may.1
  slot_duty (UnknownDenied from) may = unknown_denied a from may.0 may.1
  slot_duty PeerAccused may = peer_accused_duty a may
  slot_duty AccuseAgain may = accuse_again a may
  slot_duty MajorityAnswered may = majority_answered_duty a may.0 may.1 may.2
  slot_duty MajorityKept may = majority_kept_duty a may.0 may.1 may.2 may.3
  slot_duty (RoundClaimed round) may = round_claimed a round may.0 may.1
  slot_duty SessionDropped may = session_dropped_duty a may
  slot_duty (TakenOver part) may = taken_over_duty sound.drift a may.0 may.1 part may.2

-- a deed takes no point out of the ring

moved_inside : (points : Points) (to : Place) (place : ℕ → Place) (p : ℕ) → (to ≡ Outside → ⊥) → moved points to place p ≡ Outside → place p ≡ Outside
moved_inside points to place p inside h = go (points p) h
  where
    go : (b : Bool) → cond b to (place p) ≡ Outside → place p ≡ Outside
    go true e = absurd (inside e)
    go false e = e

slot_inside : (c : Settings) (e : End) (now : ℕ) (s : Slot) (token : Token) (place : ℕ → Place) (deed : SlotDeed) (p : ℕ) →
    (effect c e now s token place deed).place p ≡ Outside → place p ≡ Outside
slot_inside c e now s token place (PartGiven freeze) p h = moved_inside freeze.part (InFlight e s.far token.next_flight) place p (λ i. cc (i)) h
slot_inside c e now s token place (FlightTaken number part) p h = moved_inside part (At e.who) place p (λ i. cc (i)) h
slot_inside c e now s token place (FlightReturned flight got bound) p h = moved_inside flight.part (At e.who) place p (λ i. cc (i)) h
slot_inside c e now s token place (TakenOver part) p h = moved_inside part (At e.who) place p (λ i. cc (i)) h
slot_inside c e now s token place deed p h = h

-- what a deed of x leaves as it was in the world w
pub record Rest (w : World) (x : Who) (v : World) : Type 0 where
  pub time : v.time ≡ w.time
  pub starts : v.starts ≡ w.starts
  pub whole : v.whole ≡ w.whole
  pub first_accuser : v.first_accuser ≡ w.first_accuser
  pub first_claimer : v.first_claimer ≡ w.first_claimer
  pub reading : (v.instance x).reading ≡ (w.instance x).reading
  pub others : (y : Who) → same_who x y ≡ false → v.instance y ≡ w.instance y

-- what a deed of x, or some, one after another, make of the world w
pub record DeedsDone (c : Settings) (w : World) (x : Who) (v : World) : Type 0 where
  pub inv : Invariant c v
  pub live : Live c (v.instance x)
  pub later : Later c w v
  pub rest : Rest w x v

-- a duty that is done
duty_done : {c : Settings} {w : World} {e : End} {next : ℕ} {out : Outcome} → Deeded c w e next out → DeedsDone c w e.who (stepped w e next out)
duty_done {w = w} {e = e} d = record {
  inv = keeps d;
  live = stays_live d;
  later = later d;
  rest = record {
    time = refl;
    starts = refl;
    whole = refl;
    first_accuser = refl;
    first_claimer = refl;
    reading = ap (λ (i : Instance). i.reading) (own_instance d);
    others = λ y n. other_instance d y n;
  };
}

pub deed_done : {c : Settings} {w : World} → IsSound c → Invariant c w → (x : Who) → Live c (w.instance x) → (deed : Deed) →
    May c w x deed → DeedsDone c w x (done c w x deed)
deed_done {w = w} sound inv x live (HelloBegun node len) may =
    let e = end_of x (w.instance x).next_session in
    duty_done {e = e} (record { inv = inv; live = live; duty = hello_begun_duty (record { inv = inv; live = live }) refl node len; inside = λ p h. h })
deed_done {w = w} sound inv x live (OfferBegun from proposed len) may =
    let e = end_of x (w.instance x).next_session in
    duty_done {e = e} (record {
      inv = inv;
      live = live;
      duty = offer_begun_duty (record { inv = inv; live = live }) sound.answer refl from proposed len may.0 may.1 may.2 may.3;
      inside = λ p h. h;
    })
deed_done {c = c} {w = w} sound inv x live (InSlot number deed) may =
    let e = end_of x number in
    duty_done {e = e} (record { inv = inv; live = live; duty = slot_duty sound (record { inv = inv; live = live }) deed may; inside = slot_inside c e (w.instance x).reading (slot w e) (w.instance x).token w.place deed })

-- no deed
pub none_done : {c : Settings} {w : World} → Invariant c w → (x : Who) → Live c (w.instance x) → DeedsDone c w x w
none_done {c = c} {w = w} inv x live = record {
  inv = inv;
  live = live;
  later = later_refl c w;
  rest = record { time = refl; starts = refl; whole = refl; first_accuser = refl; first_claimer = refl; reading = refl; others = λ y n. refl };
}

-- more deeds
pub then_done : {c : Settings} {w v u : World} {x : Who} → DeedsDone c w x v → DeedsDone c v x u → DeedsDone c w x u
then_done a b = record {
  inv = b.inv;
  live = b.live;
  later = later_trans a.later b.later;
  rest = record {
    time = b.rest.time ∙ a.rest.time;
    starts = b.rest.starts ∙ a.rest.starts;
    whole = b.rest.whole ∙ a.rest.whole;
    first_accuser = b.rest.first_accuser ∙ a.rest.first_accuser;
    first_claimer = b.rest.first_claimer ∙ a.rest.first_claimer;
    reading = b.rest.reading ∙ a.rest.reading;
    others = λ y n. b.rest.others y n ∙ a.rest.others y n;
  };
}
