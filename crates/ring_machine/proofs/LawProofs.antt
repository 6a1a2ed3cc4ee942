-- The laws follow from the invariant.
use Rattle.std.proofs.Common.{◌≡◌, ℕ, ◌<◌, cond, List, [], ◌∷◌, ◌++◌, refl, sym, ap, ◌∙◌, arith}
use Rattle.ring_points.specs.declared.who.Who.{Who}
use Rattle.ring_machine.specs.Ends.{End, end_of}
use Rattle.ring_machine.specs.World.{Settings, World, At, Outside, Live, Dead, Holds, slot}
use Rattle.ring_machine.specs.Deeds.{SlotDeed, PartGiven, FlightTaken, FlightReturned, TakenOver, HelloBegun, OfferBegun, InSlot}
use Rattle.ring_machine.specs.Guards.{MayInSlot}
use Rattle.ring_machine.specs.Events.{Event, Again, Does, IsSound, Can, after, Valid, world_after}
use Rattle.ring_machine.specs.Invariant.{Invariant}
use Rattle.ring_machine.specs.Laws.{Exclusion, Uniqueness, RingSafe, TakenAfterLeave, OwnsItsPlaces, MovesInSlot, Moves, EachMovesFromItsPlace, GivesFlight, NumberedOnce, InvariantHolds}
use Rattle.ring_points.proofs.Whos.{same_who-false}
use Rattle.ring_machine.proofs.Whos.{updated_cases}
use Rattle.ring_machine.proofs.Later.{Later}
use Rattle.ring_machine.proofs.Exclusions.{one_heir, no_crossing}
use Rattle.ring_machine.proofs.Acting.{Acting}
use Rattle.ring_machine.proofs.GiveDuties.{given_here}
use Rattle.ring_machine.proofs.TakeDuties.{taken_flown, taken_whole, returned_flown, returned_whole}
use Rattle.ring_machine.proofs.TakeOverDuty.{accused_dead, taken_from}
use Rattle.ring_machine.proofs.Histories.{event_done, history_sound}

pub invariant_holds_lem : InvariantHolds
invariant_holds_lem c events sound valid = history_sound c sound events valid

pub exclusion_lem : Exclusion
exclusion_lem c events sound valid x y = no_crossing (history_sound c sound events valid) x y

pub uniqueness_lem : Uniqueness
uniqueness_lem c events sound valid x y victim = one_heir (history_sound c sound events valid) x y victim

pub owns_its_places_lem : OwnsItsPlaces
owns_its_places_lem c events sound valid x p live = let inv = history_sound c sound events valid in (inv.owned x p live, inv.exact x p live)

-- no two instances hold one point
pub one_holder : {c : Settings} {w : World} → Invariant c w → (x y : Who) (p : ℕ) → Holds c w x p → Holds c w y p → x ≡ y
one_holder inv x y p a b = let same : At x ≡ At y = sym (inv.owned x p a.live a.owned) ∙ inv.owned y p b.live b.owned in cc

pub ring_safe_lem : RingSafe
ring_safe_lem c events sound valid = one_holder (history_sound c sound events valid)

-- what lasts from each world to a later one lasts over a history
lasts : (c : Settings) (P : World → Type 0) → ((w v : World) → Later c w v → P w → P v) → IsSound c → (later before : List Event) →
    Valid c (later ++ before) → P (world_after c before) → P (world_after c (later ++ before))
lasts c P keeps sound [] before valid h = h
lasts c P keeps sound (event ∷ later) before valid h =
    keeps (world_after c (later ++ before)) (world_after c (event ∷ (later ++ before)))
    (event_done sound (history_sound c sound (later ++ before) valid.1) event valid.0).later
    (lasts c P keeps sound later before valid.1 h)

valid_before : (c : Settings) (later before : List Event) → Valid c (later ++ before) → Valid c before
valid_before c [] before valid = valid
valid_before c (event ∷ later) before valid = valid_before c later before valid.1

pub taken_after_leave_lem : TakenAfterLeave
taken_after_leave_lem c later earlier heir part sound valid p holds =
    let takeover : Event = Does heir.who (InSlot heir.number (TakenOver part)) in
    let now = valid_before c later (takeover ∷ earlier) valid in
    let inv = history_sound c sound earlier now.1 in
    let can = now.0 in
    let dead = accused_dead {e = heir} sound.drift (record { inv = inv; live = can.0 }) can.1.0 can.1.1 in
    let victim = (slot (world_after c earlier) heir).far.who in
    let dead_then = (event_done sound inv takeover can).later.dies victim dead in
    let dead_now = lasts c (λ w. Dead c (w.instance victim)) (λ w v l. l.dies victim) sound later (takeover ∷ earlier) valid dead_then in
    dead_now.not_live holds.live

-- a deed moves points from where they are
module _ {c : Settings} {w : World} (sound : IsSound c) (inv : Invariant c w) (e : End) (live : Live c (w.instance e.who)) where
  acting : Acting c w e
  acting = record { inv = inv; live = live }

  pub moves_in_slot : (deed : SlotDeed) → MayInSlot c w e (w.instance e.who).reading (slot w e) (w.instance e.who).token deed →
      MovesInSlot w e (slot w e) deed ((after c w (Does e.who (InSlot e.number deed))).place ≡ w.place)
  moves_in_slot (PartGiven freeze) may = given_here acting may.0 freeze may.1 may.2
  moves_in_slot (FlightTaken number part) may = record {
    flying = taken_flown acting may.0 number part may.1 may.2;
    whole = taken_whole acting may.0 number part may.1 may.2;
  }
  moves_in_slot (FlightReturned flight got bound) may = record {
    flying = returned_flown acting may.0 flight got bound may.1 may.2 may.3;
    whole = returned_whole acting may.0 flight got bound may.1 may.2 may.3;
  }
  moves_in_slot (TakenOver part) may = taken_from sound.drift acting may.0 may.1 part may.2
  moves_in_slot deed may = refl

pub each_moves_lem : EachMovesFromItsPlace
each_moves_lem c event events sound valid = go event valid.0
  where
    w : World
    w = world_after c events

    inv : Invariant c (world_after c events)
    inv = history_sound c sound events valid.1

    go : (event : Event) → Can c (world_after c events) event → Moves c (world_after c events) event
    go (Does x (InSlot number deed)) can = moves_in_slot sound inv (end_of x number) can.0 deed can.1
    go (Again x) can = λ p h. ap (λ b. cond b (At x) Outside) h
    go (Does x (HelloBegun node len)) can = refl
    go (Does x (OfferBegun from proposed len)) can = refl
    go event can = refl

-- the counter is above a flight that was given
given_below : (c : Settings) (w : World) (event : Event) (x : Who) (number : ℕ) → GivesFlight w event x number →
    number < ((after c w event).instance x).token.next_flight
given_below c w (Does y (InSlot m (PartGiven freeze))) x number given =
    updated_cases (λ i. number < i.token.next_flight) w.instance y x _
    (λ h. let n = given.1 in let same = ap (λ (z : Who). (w.instance z).token.next_flight) h in omega arith)
    (λ n. absurd (same_who-false y x n given.0))
given_below c w event x number given = absurd given

-- it has the number of the counter
given_number : (w : World) (event : Event) (x : Who) (number : ℕ) → GivesFlight w event x number → number ≡ (w.instance x).token.next_flight
given_number w (Does y (InSlot m (PartGiven freeze))) x number given = given.1
given_number w event x number given = absurd given

pub numbered_once_lem : NumberedOnce
numbered_once_lem c later earlier between before x number sound valid first second =
    let rises = lasts c (λ w. number < (w.instance x).token.next_flight) (λ w v l lt. let n = l.next_flights x in omega arith) sound between (earlier ∷ before) valid.1
    (given_below c (world_after c before) earlier x number first) in
    let same = given_number (world_after c (between ++ earlier ∷ before)) later x number second in
    omega arith
