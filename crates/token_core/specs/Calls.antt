-- What each call on a token answers and makes of it.
use Rattle.std.specs.Prelude.{ℕ, Bool, true, false, not, ◌&&◌, List, [], ◌∷◌, Option, Some, None, Result, Ok, Err, nat_le, nat_lt, is_some}
use Rattle.ring_points.specs.declared.interval.Interval.{Interval}
use Rattle.ring_points.specs.Ranges.{fits}
use Rattle.ring_points.specs.Sets.{meet_of}
use Rattle.token_core.specs.declared.refusal.TokenRefusal.{TokenRefusal}
use Rattle.token_core.specs.declared.refusal.TokenRefusal.TheVariants.{Busy, TooMany, Empty, NotReady, NoFreeze, Counters}
use Rattle.token_core.specs.Tokens.{Freeze, Token, last_number, gained, can_gain, frozen, can_freeze, unfrozen, given, inherited}

abbrev pub is_empty : List Interval → Bool
is_empty [] = true
is_empty (i ∷ is) = false

-- the first refusal whose test holds
abbrev pub unless : {A : Type 0} → Bool → TokenRefusal → Result A TokenRefusal → Result A TokenRefusal
unless true refusal next = Err refusal
unless false refusal next = next

-- what a call comes to: the token that it leaves, or its refusal
abbrev pub outcome : {A : Type 0} → Result A TokenRefusal → Token → Result Token TokenRefusal
outcome (Ok x) t = Ok t
outcome (Err refusal) t = Err refusal

-- no version is left
abbrev pub is_last_version : Token → Bool
is_last_version t = nat_le last_number t.version

abbrev pub freeze_call : Token → List Interval → ℕ → Result Token TokenRefusal
freeze_call t part slot =
    unless (is_some t.freeze) Busy (
    unless (is_empty (meet_of t.ranges part)) Empty (
    unless (not (can_freeze t part)) TooMany (
    unless (is_last_version t) Counters (Ok (frozen t part slot)))))

abbrev pub undo_call : Token → Result Token TokenRefusal
undo_call t = unless (not (is_some t.freeze)) NoFreeze (unless (is_last_version t) Counters (Ok (unfrozen t)))

abbrev pub give_frozen : Token → ℕ → Option Freeze → Result Token TokenRefusal
give_frozen t least None = Err NoFreeze
give_frozen t least (Some z) =
    unless (nat_lt least z.version) NotReady (unless (nat_lt last_number t.next_flight) Counters (Ok (given t z)))

-- the token after the gift; the flight has the token's next number and the frozen part
abbrev pub give_call : Token → ℕ → Result Token TokenRefusal
give_call t least = give_frozen t least t.freeze

abbrev pub take_call : Token → List Interval → Result Token TokenRefusal
take_call t part = unless (not (can_gain t part)) TooMany (unless (is_last_version t) Counters (Ok (gained t part)))

-- the points of a flight, if there is one
abbrev pub flight_points : Option (List Interval) → List Interval
flight_points None = []
flight_points (Some points) = points

abbrev pub inherit_call : Token → List Interval → List Interval → Result Token TokenRefusal
inherit_call t held flight =
    unless (not (fits (inherited t held flight) && can_gain t (inherited t held flight))) TooMany (
    unless (is_last_version t) Counters (Ok (gained t (inherited t held flight))))
