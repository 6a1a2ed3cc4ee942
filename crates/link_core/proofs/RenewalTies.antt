-- Renew and RenewAck on links are those of the rules.
use Rattle.std.proofs.Common.{◌≡◌, ℕ, Bool, true, false, List, ◌∷◌, Some, refl, ◌∙◌}
use Rattle.std.proofs.lemmas.List.{append-nil}
use Rattle.ring_points.specs.declared.interval.Interval.{Interval}
use Rattle.ring_points.specs.declared.who.Who.{Who}
use Rattle.join_phases.specs.Phases.{bound_phase}
use Rattle.ring_rules.specs.declared.link.Link.{Link}
use Rattle.ring_rules.specs.declared.link.LinkState.{LinkState}
use Rattle.ring_rules.specs.declared.link.LinkState.TheVariants.{Offered, Bound, Parting}
use Rattle.ring_rules.specs.Deeds.{set_phase, answer_unknown}
use Rattle.ring_rules.specs.Links.{renewed}
use Rattle.ring_rules.specs.Renewals as rules
use Rattle.ring_rules.specs.Rings.{Settings, Work}
use Rattle.ring_rules.specs.Slots.{slot_at, slot_where, of_session}
use Rattle.ring_rules.proofs.Rows.{renew_received-is, ack_received-is}
use Rattle.link_core.specs.declared.notes.LinkNote.TheVariants.{BoundNow}
use Rattle.link_core.specs.Links.{in_place, same, unknown}
use Rattle.link_core.specs.Renewals.{wanted_if, renew_heard, renew_in, renew_seen, renew_received, ack_in, ack_seen, ack_received}
use Rattle.link_core.specs.Ties.{quiet, links_of, finished}
use Rattle.link_core.proofs.Places.{set_there}
use Rattle.link_core.proofs.SessionTies.{same_tie, stays_tie, gone_said_tie, unknown_tie, session_tie}

-- Renew

heard_tie : (c : Settings) (i : ℕ) (old l : Link) (stamp version : ℕ) (want : Bool) (w : Work) → slot_at i w.ring.slots ≡ Some old → rules.renew_heard i l stamp version want w ≡ finished quiet (in_place i (renew_heard i l stamp version (wanted_if want i)) (links_of c w.ring)) w
heard_tie c i old l stamp version true w e = rw (set_there w.ring.slots i old (Some l) e) refl
heard_tie c i old l stamp version false w e = refl

bound_tie : (c : Settings) (i : ℕ) (old l : Link) (stamp version : ℕ) (want : Bool) (w : Work) → slot_at i w.ring.slots ≡ Some old → rules.renew_heard i l stamp version want (set_phase bound_phase w) ≡ finished quiet (in_place i (renew_heard i l stamp version (BoundNow ∷ wanted_if want i)) (links_of c w.ring)) w
bound_tie c i old l stamp version true w e = rw (set_there w.ring.slots i old (Some l) e) refl
bound_tie c i old l stamp version false w e = refl

renew_in_tie : (c : Settings) (stamp version got : ℕ) (want : Bool) (ranges : List Interval) (i : ℕ) (l : Link) (was : LinkState) (w : Work) → slot_at i w.ring.slots ≡ Some l → rules.renew_seen stamp version got want ranges i l was w ≡ finished quiet (in_place i (renew_in stamp version got want ranges i l was) (links_of c w.ring)) w
renew_in_tie c stamp version got want ranges i l Offered w e = bound_tie c i l (renewed l version got ranges) stamp version want w e
renew_in_tie c stamp version got want ranges i l Bound w e = heard_tie c i l (renewed l version got ranges) stamp version want w e
renew_in_tie c stamp version got want ranges i l Parting w e = gone_said_tie c quiet i l w e
renew_in_tie c stamp version got want ranges i l _ w e = stays_tie c quiet i (Some l) w e

pub renew_tie : (c : Settings) (from : Who) (theirs own stamp version got : ℕ) (want : Bool) (ranges : List Interval) (w : Work) → rules.renew_received from theirs own stamp version got want ranges w ≡ finished quiet (renew_received from theirs own stamp version got want ranges (links_of c w.ring)) w
renew_tie c from theirs own stamp version got want ranges w =
    renew_received-is from theirs own stamp version got want ranges w
    ∙ session_tie c quiet (rules.renew_seen stamp version got want ranges) (renew_seen stamp version got want ranges) (answer_unknown from theirs own) (unknown from theirs own (links_of c w.ring)) w (slot_where (of_session from own theirs) w.ring.slots)
    (λ i l e. renew_in_tie c stamp version got want ranges i l l.state w e) (λ i. refl) (unknown_tie c quiet from theirs own w)

-- RenewAck

ack_in_tie : (c : Settings) (stamp version i : ℕ) (l : Link) (was : LinkState) (w : Work) → slot_at i w.ring.slots ≡ Some l → rules.ack_seen stamp version i l was w ≡ finished quiet (in_place i (ack_in stamp version l was) (links_of c w.ring)) w
ack_in_tie c stamp version i l Bound w e = rw append-nil refl
ack_in_tie c stamp version i l Parting w e = rw append-nil refl
ack_in_tie c stamp version i l _ w e = stays_tie c quiet i (Some l) w e

pub ack_tie : (c : Settings) (from : Who) (theirs own stamp version : ℕ) (w : Work) → rules.ack_received from theirs own stamp version w ≡ finished quiet (ack_received from theirs own stamp version (links_of c w.ring)) w
ack_tie c from theirs own stamp version w =
    ack_received-is from theirs own stamp version w
    ∙ session_tie c quiet (rules.ack_seen stamp version) (λ i. ack_seen stamp version) (λ v. v) (same (links_of c w.ring)) w (slot_where (of_session from own theirs) w.ring.slots)
    (λ i l e. ack_in_tie c stamp version i l l.state w e) (λ i. refl) (same_tie c quiet w)
