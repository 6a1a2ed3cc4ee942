-- What a deed leaves, and what it sends.
use Rattle.std.specs.Prelude.{ℕ, ◌+◌, min, max, Bool, true, false, cond, nat_lt, nat_le, List, [], ◌∷◌, ◌++◌, Option, None, Some}
use Rattle.ring_points.specs.declared.who.Who.{Who}
use Rattle.ring_machine.specs.Points.{Points, no_points, union, meet, minus}
use Rattle.ring_machine.specs.Ends.{End, end_of, any_of, updated, replaced}
use Rattle.ring_machine.specs.Slots.{Slot, Flight, Asking, Offered, Bound, Parting, Accused, Discharged, Heir, Abandoned, Parted, Ended, fresh_slot}
use Rattle.ring_machine.specs.Tokens.{Token, Freeze, announced, undone}
use Rattle.ring_machine.specs.Frames.{Frame, Hello, Offer, Take, Renew, RenewAck, Transfer, Gone, Accuse, RoundClaim, answer_if}
use Rattle.drift_clock.specs.Wait.{heir_wait}
use Rattle.ring_machine.specs.World.{Settings, Instance, World, Place, At, InFlight, slot}
use Rattle.ring_machine.specs.Deeds.{SlotDeed, HelloAgain, HelloDropped, HelloDenied, OfferAgain, OfferTaken, TakeAgain, TakeHeard, RenewSent, RenewHeard, AckHeard, PartFrozen, PartGiven, FlightAgain, FlightTaken, FlightReturned, PartingBegun, GoneAgain, GoneHeard, UnknownDenied, PeerAccused, AccuseAgain, MajorityAnswered, MajorityKept, RoundClaimed, SessionDropped, TakenOver, Deed, HelloBegun, OfferBegun, InSlot}

-- the slot and the token after a deed, what it sends, and where the points are then
pub record Outcome : Type 0 where
  pub slot : Slot
  pub token : Token
  pub sent : List Frame
  pub place : ℕ → Place

-- places where some points came to another place
abbrev pub moved : Points → Place → (ℕ → Place) → ℕ → Place
moved points to place p = cond (points p) to (place p)

-- a flight that the other side has taken stands no more
abbrev pub unconfirmed : ℕ → Option Flight → Option Flight
unconfirmed got None = None
unconfirmed got (Some flight) = cond (nat_le flight.number got) None (Some flight)

-- the slot after a Renew; is_newer says that its version is above the recorded one
abbrev pub renewed : Slot → (version got : ℕ) → Points → (is_newer : Bool) → Slot
renewed s version got points true = record s { state = Bound; held = points; held_version = version; flight = unconfirmed got s.flight }
renewed s version got points false = record s { state = Bound; flight = unconfirmed got s.flight }

-- a session that is over after an accusation
abbrev pub ended : Slot → Slot
ended s = record s { state = Ended; held = no_points; flight = None }

-- a session that is over by a Gone
abbrev pub parted : Slot → Slot
parted s = record s { state = Parted; held = no_points; flight = None }

-- a session that begins now with the end that offered it
abbrev pub begun : Slot → End → (len now : ℕ) → Slot
begun s from len now = record s { far = from; state = Bound; until = now + len; len = len }

-- the token with more ranges
abbrev pub enlarged : Token → Points → Token
enlarged token part = record token { ranges = union token.ranges part; version = token.version + 1 }

abbrev pub outcome : Slot → Token → List Frame → (ℕ → Place) → Outcome
outcome slot token sent place = record { slot = slot; token = token; sent = sent; place = place }

-- s, token and place are those of e before the deed, now its reading
abbrev pub effect : Settings → End → (now : ℕ) → Slot → Token → (ℕ → Place) → SlotDeed → Outcome
-- a session begins
effect c e now s token place HelloAgain = outcome s token (Hello e s.far.who.actor s.len ∷ []) place
effect c e now s token place HelloDropped = outcome (record s { state = Abandoned }) token [] place
effect c e now s token place (HelloDenied from got bound) =
    outcome (record s { state = Abandoned }) token (answer_if bound (Gone e from 0 false)) place
effect c e now s token place OfferAgain = outcome s token (Offer e s.far s.len ∷ []) place
effect c e now s token place (OfferTaken from len) = outcome (begun s from (min s.len len) now) token (Take e from ∷ []) place
effect c e now s token place TakeAgain = outcome s token (Take e s.far ∷ []) place
effect c e now s token place TakeHeard = outcome (record s { state = Bound }) token [] place
-- it is renewed
effect c e now s token place RenewSent =
    outcome s token (Renew e s.far now token.version s.got (announced token) ∷ []) place
effect c e now s token place (RenewHeard stamp version got points) =
    outcome (renewed s version got points (nat_lt s.held_version version)) token (RenewAck e s.far stamp version ∷ []) place
effect c e now s token place (AckHeard stamp version) =
    outcome (record s { until = max s.until (stamp + s.len); acked = max s.acked version }) token [] place
-- points are given and taken
effect c e now s token place (PartFrozen part) =
    let freeze : Freeze = record { part = meet token.ranges part; number = e.number; version = token.version + 1 } in
    outcome s (record token { version = token.version + 1; freeze = Some freeze }) [] place
effect c e now s token place (PartGiven freeze) =
    let number = token.next_flight in
    outcome
    (record s { flight = Some (record { number = number; part = freeze.part }) })
    (record token { ranges = minus token.ranges freeze.part; freeze = None; next_flight = number + 1 })
    (Transfer e s.far number freeze.part ∷ [])
    (moved freeze.part (InFlight e s.far number) place)
effect c e now s token place (FlightAgain flight) = outcome s token (Transfer e s.far flight.number flight.part ∷ []) place
effect c e now s token place (FlightTaken number part) =
    outcome (record s { got = number }) (enlarged token part) [] (moved part (At e.who) place)
effect c e now s token place (FlightReturned flight got bound) =
    outcome
    (parted s)
    (undone e.number (enlarged token flight.part) token.freeze)
    (answer_if bound (Gone e s.far s.got false))
    (moved flight.part (At e.who) place)
-- it ends
effect c e now s token place PartingBegun =
    outcome (record s { state = Parting; held = no_points }) (undone e.number token token.freeze) (Gone e s.far s.got true ∷ []) place
effect c e now s token place GoneAgain = outcome s token (Gone e s.far s.got true ∷ []) place
effect c e now s token place (GoneHeard got bound) =
    outcome (parted s) (undone e.number token token.freeze) (answer_if bound (Gone e s.far s.got false)) place
effect c e now s token place (UnknownDenied from) = outcome s token (Gone e from 0 false ∷ []) place
-- the other side is accused, and an heir takes over
effect c e now s token place PeerAccused =
    outcome (record s { state = Accused }) (undone e.number token token.freeze) (Accuse e.who s.far.who ∷ []) place
effect c e now s token place AccuseAgain = outcome s token (Accuse e.who s.far.who ∷ []) place
effect c e now s token place MajorityAnswered = outcome (record s { state = Discharged }) token [] place
effect c e now s token place MajorityKept =
    outcome (record s { state = Heir; ripe = now + heir_wait c.bound s.len c.answer }) token [] place
effect c e now s token place (RoundClaimed round) = outcome s token (RoundClaim e.who s.far.who round ∷ []) place
effect c e now s token place SessionDropped = outcome (ended s) token [] place
effect c e now s token place (TakenOver part) = outcome (ended s) (enlarged token part) [] (moved part (At e.who) place)

-- a slot that asks a node for a session
abbrev pub hello_begun : End → (now : ℕ) → Token → (ℕ → Place) → (node len : ℕ) → Outcome
hello_begun e now token place node len = outcome (fresh_slot (any_of node) Asking len now) token (Hello e node len ∷ []) place

-- a slot that offers a session to the end that asked
abbrev pub offer_begun : End → (now : ℕ) → Token → (ℕ → Place) → End → (len : ℕ) → Outcome
offer_begun e now token place from len = outcome (fresh_slot from Offered len now) token (Offer e from len ∷ []) place

-- the instance with a slot, the session counter and the token after a deed
abbrev pub changed : Instance → (number next : ℕ) → Slot → Token → Instance
changed i number next s token = record i { token = token; slots = replaced i.slots number s; next_session = next }

-- the world after a deed of e
abbrev pub stepped : World → End → (next : ℕ) → Outcome → World
stepped w e next out = record w {
  instance = updated w.instance e.who (changed (w.instance e.who) e.number next out.slot out.token);
  sent = out.sent ++ w.sent;
  place = out.place;
}

abbrev pub done : Settings → World → Who → Deed → World
done c w x (HelloBegun node len) =
    let i = w.instance x in
    let e = end_of x i.next_session in
    stepped w e (i.next_session + 1) (hello_begun e i.reading i.token w.place node len)
done c w x (OfferBegun from proposed len) =
    let i = w.instance x in
    let e = end_of x i.next_session in
    stepped w e (i.next_session + 1) (offer_begun e i.reading i.token w.place from len)
done c w x (InSlot number deed) =
    let i = w.instance x in
    let e = end_of x number in
    stepped w e i.next_session (effect c e i.reading (i.slots number) i.token w.place deed)
