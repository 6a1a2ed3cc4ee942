-- What the calls of a node's layer above make of the links.
use Rattle.std.specs.Prelude.{ℕ, Bool, true, false, List, [], ◌∷◌, Option, Some, None, Result, Ok, Err}
use Rattle.drift_clock.specs.declared.bound.Bound.{Bound}
use Rattle.ring_points.specs.declared.who.Flight.{Flight}
use Rattle.ring_points.specs.declared.who.Who.{Who}
use Rattle.fabric_terms.specs.declared.message.Body.{Body}
use Rattle.ring_rules.specs.declared.link.Link.{Link}
use Rattle.ring_rules.specs.Rings.{no_slots}
use Rattle.ring_rules.specs.Slots.{slot_at, slot_where, may_part, of_node}
use Rattle.ring_rules.specs.Links.{has_flight, parting_link, transfer_body}
use Rattle.link_core.specs.declared.refusal.LinkRefusal.{LinkRefusal}
use Rattle.link_core.specs.declared.refusal.LinkRefusal.TheVariants.{NotLinked, Busy}
use Rattle.link_core.specs.Links.{Links, Turn, Did, did, did_after, turn, turn_after, stays, in_place, gone_said}
use Rattle.link_core.specs.Handshakes.{greet, greeting_for}
use Rattle.link_core.specs.Flights.{last_words}

-- no link yet, and nobody accused
abbrev pub no_links : Who → ℕ → ℕ → ℕ → Bound → ℕ → ℕ → Links
no_links me lease longest answer bound arbitrators rounds =
    record {
      me = me;
      lease = lease;
      longest = longest;
      answer = answer;
      bound = bound;
      arbitrators = arbitrators;
      rounds = rounds;
      slots = no_slots;
      next_session = 1;
      accused = [];
    }

-- what a call comes to: what it did, or its refusal
abbrev pub outcome : Result (Unit {0}) LinkRefusal → Links → List (Who × Body) → Result Did LinkRefusal
outcome (Ok done) k sent = Ok (did k sent [])
outcome (Err refusal) k sent = Err refusal

-- a call after the frames that were sent before
abbrev pub call_after : List (Who × Body) → Result Did LinkRefusal → Result Did LinkRefusal
call_after before (Ok d) = Ok (did_after before d)
call_after before (Err refusal) = Err refusal

abbrev pub hello_call : ℕ → ℕ → Option ℕ → Links → Result Did LinkRefusal
hello_call now node length k = greet k (greeting_for k now node length)

-- what a call on a slot comes to, and what it comes to after the frames that were sent before

abbrev pub turn_outcome : Result (Unit {0}) LinkRefusal → Option Link → List (Who × Body) → Result Turn LinkRefusal
turn_outcome (Ok done) slot sent = Ok (turn slot sent [])
turn_outcome (Err refusal) slot sent = Err refusal

abbrev pub turn_call_after : List (Who × Body) → Result Turn LinkRefusal → Result Turn LinkRefusal
turn_call_after before (Ok t) = Ok (turn_after before t)
turn_call_after before (Err refusal) = Err refusal

-- A slot gives up its record and says so to the peer, unless a flight of it stands.

abbrev pub part_unless : Link → Bool → Result Turn LinkRefusal
part_unless l true = Err Busy
part_unless l false = Ok (gone_said (parting_link l))

abbrev pub slot_parted : Option Link → Result Turn LinkRefusal
slot_parted None = Ok (stays None)
slot_parted (Some l) = part_unless l (has_flight l)

abbrev pub part_at : ℕ → Links → Result Turn LinkRefusal → Result Did LinkRefusal
part_at i k (Ok t) = Ok (in_place i t k)
part_at i k (Err refusal) = Err refusal

abbrev pub part_seen : Links → Option ℕ → Result Did LinkRefusal
part_seen k None = Err NotLinked
part_seen k (Some i) = part_at i k (slot_parted (slot_at i k.slots))

abbrev pub part_call : ℕ → Links → Result Did LinkRefusal
part_call node k = part_seen k (slot_where (of_node may_part node) k.slots)

-- a flight of this number was taken
abbrev pub flight_taken : ℕ → Option Link → Turn
flight_taken number None = stays None
flight_taken number (Some l) = stays (Some (record l { got = number }))

-- a flight goes to the peer
abbrev pub flight_sent : Flight → Option Link → Turn
flight_sent f None = stays None
flight_sent f (Some l) = turn (Some (record l { flight = Some f })) ((l.peer, transfer_body l f) ∷ []) []

-- the slot ends, and the peer gets its answer if it wants one
abbrev pub slot_closed : Bool → Option Link → Turn
slot_closed bound None = stays None
slot_closed bound (Some l) = turn None (last_words l bound) []

-- a call on the slot in this place
abbrev pub call_in : ℕ → (Option Link → Turn) → Links → Did
call_in i row k = in_place i (row (slot_at i k.slots)) k
