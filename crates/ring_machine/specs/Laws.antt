-- The law of the machine, over every valid history.
use Rattle.std.specs.Prelude.{◌≡◌, ◌↔◌, ℕ, true, List, ◌∷◌, ◌++◌, ◌⊎◌}
use Rattle.ring_points.specs.declared.who.Who.{Who}
use Rattle.ring_machine.specs.Points.{Points, is_point}
use Rattle.ring_machine.specs.Ends.{End, end_of}
use Rattle.ring_machine.specs.Slots.{Slot}
use Rattle.ring_machine.specs.World.{Settings, World, At, InFlight, Live, Holds, slot}
use Rattle.ring_machine.specs.Arbitration.{HeirBy, AnsweredBy}
use Rattle.ring_machine.specs.Deeds.{InSlot, SlotDeed, PartGiven, FlightTaken, FlightReturned, TakenOver}
use Rattle.ring_machine.specs.Events.{Event, Again, Does, IsSound, Valid, world_after, after}
use Rattle.ring_machine.specs.SoundFlights.{IsWhole}
use Rattle.ring_machine.specs.Invariant.{Invariant}

-- the fact holds of the world after every valid history
abbrev pub Always : (Settings → World → Type 0) → Type 0
Always Fact = (c : Settings) (events : List Event) → IsSound c → Valid c events → Fact c (world_after c events)

-- no majority answered x about y while one answered y about x
abbrev pub Exclusion : Type 0
Exclusion = Always (λ c w. (x y : Who) → AnsweredBy c w.sent x y → AnsweredBy c w.sent y x → ⊥)

-- one instance at most is kept by a majority in some round about another, whatever the rounds
abbrev pub Uniqueness : Type 0
Uniqueness = Always (λ c w. (x y victim : Who) → HeirBy c w.sent x victim → HeirBy c w.sent y victim → x ≡ y)

-- no two instances hold one point
abbrev pub RingSafe : Type 0
RingSafe = Always (λ c w. (x y : Who) (p : ℕ) → Holds c w x p → Holds c w y p → x ≡ y)

-- an instance from which another took over holds nothing from then on
abbrev pub TakenAfterLeave : Type 0
TakenAfterLeave = (c : Settings) (later earlier : List Event) (heir : End) (part : Points) → IsSound c →
    let takeover : Event = Does heir.who (InSlot heir.number (TakenOver part)) in
    let victim = (slot (world_after c earlier) heir).far.who in
    Valid c (later ++ takeover ∷ earlier) → (p : ℕ) → Holds c (world_after c (later ++ takeover ∷ earlier)) victim p → ⊥

-- a live instance owns exactly the points that are at it
abbrev pub OwnsItsPlaces : Type 0
OwnsItsPlaces = Always (λ c w. (x : Who) (p : ℕ) → Live c (w.instance x) → ((w.instance x).token.ranges p ≡ true) ↔ (w.place p ≡ At x))

-- the points of one flight, whole
pub record IsFlight (w : World) (giver receiver : End) (number : ℕ) (part : Points) : Type 0 where
  pub flying : (p : ℕ) → part p ≡ true → w.place p ≡ InFlight giver receiver number
  pub whole : IsWhole w.place giver number part

-- s is the slot of e before the deed
abbrev pub MovesInSlot : World → End → Slot → SlotDeed → Type 0 → Type 0
MovesInSlot w e s (PartGiven freeze) stay = (p : ℕ) → freeze.part p ≡ true → w.place p ≡ At e.who
MovesInSlot w e s (FlightTaken number part) stay = IsFlight w s.far e number part
MovesInSlot w e s (FlightReturned flight got bound) stay = IsFlight w e s.far flight.number flight.part
MovesInSlot w e s (TakenOver part) stay =
    (p : ℕ) → part p ≡ true → (w.place p ≡ At s.far.who) ⊎ ((number : ℕ) × (w.place p ≡ InFlight e s.far number))
MovesInSlot w e s deed stay = stay

-- four deeds move points, each from where they are: a part that is given from the giver, a flight that is taken or
-- returned from its flight, and what is taken over from the accused instance or from the heir's flight to it; where the
-- ring comes back, all points come to one instance
abbrev pub Moves : Settings → World → Event → Type 0
Moves c w (Does x (InSlot number deed)) =
    MovesInSlot w (end_of x number) (slot w (end_of x number)) deed ((after c w (Does x (InSlot number deed))).place ≡ w.place)
Moves c w (Again x) = (p : ℕ) → is_point p ≡ true → (after c w (Again x)).place p ≡ At x
Moves c w event = (after c w event).place ≡ w.place

abbrev pub EachMovesFromItsPlace : Type 0
EachMovesFromItsPlace =
    (c : Settings) (event : Event) (events : List Event) → IsSound c → Valid c (event ∷ events) → Moves c (world_after c events) event

-- in the event x gives a flight, which gets this number
abbrev pub GivesFlight : World → Event → Who → ℕ → Type 0
GivesFlight w (Does y (InSlot m (PartGiven freeze))) x number = (y ≡ x) × (number ≡ (w.instance x).token.next_flight)
GivesFlight w event x number = ⊥

-- no instance gives two flights of one number
abbrev pub NumberedOnce : Type 0
NumberedOnce = (c : Settings) (later earlier : Event) (between before : List Event) (x : Who) (number : ℕ) → IsSound c →
    Valid c (later ∷ between ++ earlier ∷ before) →
    GivesFlight (world_after c before) earlier x number → GivesFlight (world_after c (between ++ earlier ∷ before)) later x number → ⊥

-- the invariant, from which all this follows
abbrev pub InvariantHolds : Type 0
InvariantHolds = Always Invariant
