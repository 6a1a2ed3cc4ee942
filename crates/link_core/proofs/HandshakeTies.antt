-- Hello, Offer and Take on links are those of the rules.
use Rattle.std.proofs.Common.{◌≡◌, ℕ, Option, Some, None, refl, ◌∙◌}
use Rattle.ring_points.specs.declared.who.Who.{Who}
use Rattle.ring_rules.specs.declared.link.Link.{Link}
use Rattle.ring_rules.specs.declared.link.LinkState.{LinkState}
use Rattle.ring_rules.specs.declared.link.LinkState.TheVariants.{Offered, Bound, Parting}
use Rattle.ring_rules.specs.Deeds.{answer_unknown}
use Rattle.ring_rules.specs.Handshakes as rules
use Rattle.ring_rules.specs.Rings.{Settings, Work}
use Rattle.ring_rules.specs.Slots.{slot_at, slot_where, of_session, greets_node_by}
use Rattle.ring_rules.proofs.Rows.{offer_received-is, take_received-is}
use Rattle.link_core.specs.Links.{in_place, unknown}
use Rattle.link_core.specs.Handshakes.{offer_taken, take_again, offer_repeated, offer_seen, offer_received, take_in, take_seen, take_received}
use Rattle.link_core.specs.Ties.{quiet, links_of, announce_of, finished}
use Rattle.link_core.proofs.Places.{set_here}
use Rattle.link_core.proofs.SessionTies.{stays_tie, gone_said_tie, unknown_tie, session_tie}

-- Take

pub take_in_tie : (c : Settings) (now i : ℕ) (l : Link) (was : LinkState) (w : Work) → slot_at i w.ring.slots ≡ Some l → rules.take_seen now i l was w ≡ finished quiet (in_place i (take_in now (announce_of w.ring) l was) (links_of c w.ring)) w
take_in_tie c now i l Offered w e = refl
take_in_tie c now i l Parting w e = gone_said_tie c quiet i l w e
take_in_tie c now i l _ w e = stays_tie c quiet i (Some l) w e

pub take_tie : (c : Settings) (now : ℕ) (from : Who) (theirs own : ℕ) (w : Work) → rules.take_received now from theirs own w ≡ finished quiet (take_received now (announce_of w.ring) from theirs own (links_of c w.ring)) w
take_tie c now from theirs own w =
    take_received-is now from theirs own w
    ∙ session_tie c quiet (rules.take_seen now) (λ i. take_seen now (announce_of w.ring)) (answer_unknown from theirs own) (unknown from theirs own (links_of c w.ring)) w (slot_where (of_session from own theirs) w.ring.slots)
    (λ i l e. take_in_tie c now i l l.state w e) (λ i. refl) (unknown_tie c quiet from theirs own w)

-- Offer

pub take_again_tie : (c : Settings) (i : ℕ) (l : Link) (was : LinkState) (w : Work) → slot_at i w.ring.slots ≡ Some l → rules.offer_repeated i l was w ≡ finished quiet (in_place i (take_again l was) (links_of c w.ring)) w
take_again_tie c i l Bound w e = rw (set_here w.ring.slots i (Some l) e) refl
take_again_tie c i l Parting w e = gone_said_tie c quiet i l w e
take_again_tie c i l _ w e = stays_tie c quiet i (Some l) w e

pub offer_taken_tie : (c : Settings) (now : ℕ) (from : Who) (theirs len i : ℕ) (slot : Option Link) (w : Work) → slot_at i w.ring.slots ≡ slot → rules.offer_taken now from theirs len i slot w ≡ finished quiet (in_place i (offer_taken now from theirs len slot) (links_of c w.ring)) w
offer_taken_tie c now from theirs len i None w e = stays_tie c quiet i None w e
offer_taken_tie c now from theirs len i (Some l) w e = refl

pub offer_seen_tie : (c : Settings) (now : ℕ) (from : Who) (theirs own len : ℕ) (w : Work) (place : Option ℕ) → rules.offer_seen now from theirs own len w place ≡ finished quiet (offer_seen now from theirs own len (links_of c w.ring) place) w
offer_seen_tie c now from theirs own len w (Some i) = offer_taken_tie c now from theirs len i (slot_at i w.ring.slots) w refl
offer_seen_tie c now from theirs own len w None =
    session_tie c quiet rules.offer_repeated (λ i. offer_repeated) (answer_unknown from theirs own) (unknown from theirs own (links_of c w.ring)) w (slot_where (of_session from own theirs) w.ring.slots)
    (λ i l e. take_again_tie c i l l.state w e) (λ i. refl) (unknown_tie c quiet from theirs own w)

pub offer_tie : (c : Settings) (now : ℕ) (from : Who) (theirs own len : ℕ) (w : Work) → rules.offer_received now from theirs own len w ≡ finished quiet (offer_received now from theirs own len (links_of c w.ring)) w
offer_tie c now from theirs own len w = offer_received-is now from theirs own len w ∙ offer_seen_tie c now from theirs own len w (slot_where (greets_node_by from.actor own) w.ring.slots)
