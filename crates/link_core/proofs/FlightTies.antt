-- Transfer and Gone on links are those of the rules.
use Rattle.std.proofs.Common.{◌≡◌, ℕ, Bool, true, false, not, ◌&&◌, List, Option, Some, None, refl, ◌∙◌, nat_le, nat_lt, arith, ap}
use Rattle.std.proofs.lemmas.Bool.Decides.{nat_tests}
use Rattle.std.proofs.lemmas.List.{append-nil}
use Rattle.ring_points.specs.declared.interval.Interval.{Interval}
use Rattle.ring_points.specs.declared.who.Flight.{Flight}
use Rattle.ring_points.specs.declared.who.Who.{Who}
use Rattle.token_core.specs.Tokens.{can_gain}
use Rattle.ring_rules.specs.declared.link.Link.{Link}
use Rattle.ring_rules.specs.declared.link.LinkState.{LinkState}
use Rattle.ring_rules.specs.declared.link.LinkState.TheVariants.{Offered, Bound, Parting}
use Rattle.ring_rules.specs.Deeds.{answer_unknown}
use Rattle.ring_rules.specs.Flights as rules
use Rattle.ring_rules.specs.Rings.{Settings, Work}
use Rattle.ring_rules.specs.Slots.{slot_at, slot_where, of_session, greets_by}
use Rattle.ring_rules.proofs.Rows.{transfer_received-is, gone_received-is}
use Rattle.link_core.specs.Links.{in_place, unknown}
use Rattle.link_core.specs.Flights.{arrived_if, transfer_in, transfer_seen, transfer_received, closed, is_lost, gone_heard, gone_if, stands, gone_seen, gone_greeting, gone_elsewhere, gone_received}
use Rattle.link_core.specs.Ties.{links_of, finished, brings, parts_from}
use Rattle.link_core.proofs.Places.{set_here}
use Rattle.link_core.proofs.SessionTies.{stays_tie, gone_said_tie, unknown_tie, session_tie}

-- Transfer

arrived_tie : (c : Settings) (i : ℕ) (l : Link) (number : ℕ) (part : List Interval) (above : Bool) (w : Work) → slot_at i w.ring.slots ≡ Some l → rules.take_flight i l number part w (above && can_gain w.ring.token part) ≡ finished (brings number part) (in_place i (arrived_if i l above) (links_of c w.ring)) w
arrived_tie c i l number part true w e = rw (set_here w.ring.slots i (Some l) e, append-nil, e) refl
arrived_tie c i l number part false w e = stays_tie c (brings number part) i (Some l) w e

transfer_in_tie : (c : Settings) (number : ℕ) (part : List Interval) (i : ℕ) (l : Link) (was : LinkState) (w : Work) → slot_at i w.ring.slots ≡ Some l → rules.transfer_seen number part i l was w ≡ finished (brings number part) (in_place i (transfer_in number i l was) (links_of c w.ring)) w
transfer_in_tie c number part i l Bound w e = arrived_tie c i l number part (nat_lt l.got number) w e
transfer_in_tie c number part i l Parting w e = gone_said_tie c (brings number part) i l w e
transfer_in_tie c number part i l _ w e = stays_tie c (brings number part) i (Some l) w e

pub transfer_tie : (c : Settings) (from : Who) (theirs own number : ℕ) (part : List Interval) (w : Work) → rules.transfer_received from theirs own number part w ≡ finished (brings number part) (transfer_received from theirs own number (links_of c w.ring)) w
transfer_tie c from theirs own number part w =
    transfer_received-is from theirs own number part w
    ∙ session_tie c (brings number part) (rules.transfer_seen number part) (transfer_seen number) (answer_unknown from theirs own) (unknown from theirs own (links_of c w.ring)) w (slot_where (of_session from own theirs) w.ring.slots)
    (λ i l e. transfer_in_tie c number part i l l.state w e) (λ i. refl) (unknown_tie c (brings number part) from theirs own w)

-- Gone

closed_tie : (c : Settings) (i : ℕ) (l : Link) (bound : Bool) (w : Work) → rules.close i l bound w ≡ finished (parts_from bound) (in_place i (closed i l bound) (links_of c w.ring)) w
closed_tie c i l true w = refl
closed_tie c i l false w = rw append-nil refl

settled_tie : (c : Settings) (i : ℕ) (l : Link) (f : Flight) (bound lost : Bool) (w : Work) → slot_at i w.ring.slots ≡ Some l → l.flight ≡ Some f → rules.flight_settled i l f bound w (not lost) ≡ finished (parts_from bound) (in_place i (gone_heard i l bound lost) (links_of c w.ring)) w
settled_tie c i l f bound false w e z = closed_tie c i l bound w
settled_tie c i l f bound true w e z = rw (set_here w.ring.slots i (Some l) e, append-nil, e, z) refl

not_lost : (f : Flight) (got : ℕ) → nat_le f.number got ≡ not (nat_lt got f.number)
not_lost f got = grind (arith, nat_tests)

heard_tie : (c : Settings) (i : ℕ) (l : Link) (got : ℕ) (bound : Bool) (flight : Option Flight) (w : Work) → slot_at i w.ring.slots ≡ Some l → l.flight ≡ flight → rules.gone_heard i l got bound flight w ≡ finished (parts_from bound) (in_place i (gone_heard i l bound (is_lost got flight)) (links_of c w.ring)) w
heard_tie c i l got bound None w e z = closed_tie c i l bound w
heard_tie c i l got bound (Some f) w e z = ap (rules.flight_settled i l f bound w) (not_lost f got) ∙ settled_tie c i l f bound (nat_lt got f.number) w e z

gone_in_tie : (c : Settings) (got : ℕ) (bound : Bool) (i : ℕ) (l : Link) (was : LinkState) (w : Work) → slot_at i w.ring.slots ≡ Some l → rules.gone_seen got bound i l was w ≡ finished (parts_from bound) (in_place i (gone_if got bound i l (stands was)) (links_of c w.ring)) w
gone_in_tie c got bound i l Offered w e = heard_tie c i l got bound l.flight w e refl
gone_in_tie c got bound i l Bound w e = heard_tie c i l got bound l.flight w e refl
gone_in_tie c got bound i l Parting w e = heard_tie c i l got bound l.flight w e refl
gone_in_tie c got bound i l _ w e = stays_tie c (parts_from bound) i (Some l) w e

greeting_tie : (c : Settings) (from : Who) (theirs own : ℕ) (bound : Bool) (w : Work) (place : Option ℕ) → rules.gone_greeting from theirs own bound w place ≡ finished (parts_from bound) (gone_greeting from theirs own bound (links_of c w.ring) place) w
greeting_tie c from theirs own true w None = refl
greeting_tie c from theirs own false w None = rw append-nil refl
greeting_tie c from theirs own true w (Some i) = refl
greeting_tie c from theirs own false w (Some i) = rw append-nil refl

pub gone_tie : (c : Settings) (from : Who) (theirs own got : ℕ) (bound : Bool) (w : Work) → rules.gone_received from theirs own got bound w ≡ finished (parts_from bound) (gone_received from theirs own got bound (links_of c w.ring)) w
gone_tie c from theirs own got bound w =
    gone_received-is from theirs own got bound w
    ∙ session_tie c (parts_from bound) (rules.gone_seen got bound) (gone_seen got bound) (rules.gone_elsewhere from theirs own bound) (gone_elsewhere from theirs own bound (links_of c w.ring)) w (slot_where (of_session from own theirs) w.ring.slots)
    (λ i l e. gone_in_tie c got bound i l l.state w e) (λ i. refl) (greeting_tie c from theirs own bound w (slot_where (greets_by own) w.ring.slots))
