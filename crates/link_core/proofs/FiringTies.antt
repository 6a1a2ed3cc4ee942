-- A firing at one slot is that of the rules.
use Rattle.std.proofs.Common.{◌≡◌, ℕ, zero, suc, Bool, true, false, List, [], ◌∷◌, ◌++◌, length, Option, Some, None, refl, ap, ◌∙◌, nat_le, nat_lt, append_assoc}
use Rattle.std.proofs.lemmas.List.{append-nil}
use Rattle.ring_points.specs.declared.who.Flight.{Flight}
use Rattle.ring_points.specs.declared.who.Who.{Who}
use Rattle.fabric_terms.specs.declared.message.Body.{Body}
use Rattle.arbiter_quorum.specs.Tallies.{has_answered}
use Rattle.ring_rules.specs.declared.link.Link.{Link}
use Rattle.ring_rules.specs.declared.link.LinkState.{LinkState}
use Rattle.ring_rules.specs.declared.link.LinkState.TheVariants.{Hello, Offered, Bound, Parting, Accused, Discharged, Heir}
use Rattle.ring_rules.specs.Deeds.{counted, say_gone, send}
use Rattle.ring_rules.specs.Firing as rules
use Rattle.ring_rules.specs.Claims as rules_of_claims
use Rattle.ring_rules.specs.Claims.{owes_round}
use Rattle.link_core.specs.Rounds.{claimed_first, claimed_if, claims, claims_if}
use Rattle.ring_rules.specs.Links.{offer_body, renew_body}
use Rattle.ring_rules.specs.Rings.{Settings, Work, accused_limit, ◌▷◌}
use Rattle.ring_rules.specs.Slots.{slot_at}
use Rattle.ring_rules.proofs.Rows.{slot_fired-is, peer_accused-is, discharged_fired-is}
use Rattle.link_core.specs.Links.{in_place, turn}
use Rattle.link_core.specs.Firing.{accuse_if, accusing, asked, asked_first, asked_if, discharged_due, discharged_end, fired_at, fired_if, heir_due, hello_due, leases, peer_accused, slot_fired, transfer_again}
use Rattle.link_core.specs.Ties.{quiet, links_of, announce_of, finished}
use Rattle.link_core.proofs.Asked.{asked_first-zero, asked_first-suc, claimed_first-zero, claimed_first-suc}
use Rattle.link_core.proofs.Places.{set_here}
use Rattle.link_core.proofs.SessionTies.{same_tie, stays_tie, gone_said_tie}

-- these frames are sent too
abbrev pub sending : List (Who × Body) → Work → Work
sending frames w = record w { sent = w.sent ++ frames }

ask_tie : (a : ℕ) (l : Link) (frames : List (Who × Body)) (w : Work) (answered : Bool) → rules.ask_if a l (sending frames w) answered ≡ sending (frames ++ asked_if a l.peer answered) w
ask_tie a l frames w true = rw append-nil refl
ask_tie a l frames w false = rw append_assoc refl

pub ask_first_tie : (k : ℕ) (l : Link) (w : Work) → rules.ask_first k l w ≡ sending (asked_first k l.peer l.tally.answers) w
ask_first_tie zero l w = rw (asked_first-zero, append-nil) refl
ask_first_tie (suc k) l w = rw (ask_first_tie k l w, asked_first-suc) (ask_tie (suc k) l (asked_first k l.peer l.tally.answers) w (has_answered (suc k) l.tally.answers))

claim_tie : (a : ℕ) (l : Link) (frames : List (Who × Body)) (w : Work) (owes : Bool) → rules_of_claims.claim_if a l (sending frames w) owes ≡ sending (frames ++ claimed_if a l owes) w
claim_tie a l frames w true = rw append_assoc refl
claim_tie a l frames w false = rw append-nil refl

claim_first_tie : (k : ℕ) (l : Link) (w : Work) → rules_of_claims.claim_first k l w ≡ sending (claimed_first k l) w
claim_first_tie zero l w = rw (claimed_first-zero, append-nil) refl
claim_first_tie (suc k) l w = rw (claim_first_tie k l w, claimed_first-suc) (claim_tie (suc k) l (claimed_first k l) w (owes_round (suc k) l))

pub claims_tie : (c : Settings) (l : Link) (w : Work) → rules_of_claims.claim_round c l w ≡ sending (claims c.rounds c.arbitrators l) w
claims_tie c l w = go (nat_lt 1 c.rounds)
  where
    go : (b : Bool) → rules_of_claims.claim_where c l w b ≡ sending (claims_if c.arbitrators l b) w
    go true = claim_first_tie c.arbitrators l w
    go false = rw append-nil refl

both_tie : (c : Settings) (l : Link) (w : Work) → rules_of_claims.claim_round c l (rules.ask_arbiters c l w) ≡ sending (asked c.arbitrators l ++ claims c.rounds c.arbitrators l) w
both_tie c l w = ap (rules_of_claims.claim_round c l) (ask_first_tie c.arbitrators l w) ∙ claims_tie c l (sending (asked c.arbitrators l) w) ∙ rw append_assoc refl

-- the slot asks again
asked_tie : (c : Settings) (i : ℕ) (l : Link) (w : Work) → slot_at i w.ring.slots ≡ Some l → rules.ask_arbiters c l w ≡ finished quiet (in_place i (turn (Some l) (asked c.arbitrators l) []) (links_of c w.ring)) w
asked_tie c i l w e = rw (set_here w.ring.slots i (Some l) e) (ask_first_tie c.arbitrators l w)

accuse_tie : (c : Settings) (i : ℕ) (l : Link) (w : Work) (room : Bool) → rules.accuse_if c i l w room ≡ finished quiet (accuse_if i l (links_of c w.ring) room) w
accuse_tie c i l w true = ask_first_tie c.arbitrators (accusing (links_of c w.ring) l) _
accuse_tie c i l w false = rw append-nil refl

accused_tie : (c : Settings) (i : ℕ) (l : Link) (w : Work) → rules.peer_accused c i l w ≡ finished quiet (peer_accused i l (links_of c w.ring)) w
accused_tie c i l w = peer_accused-is c i l w ∙ accuse_tie c i l w (nat_lt (length w.ring.accused) accused_limit)

hello_due_tie : (c : Settings) (i : ℕ) (l : Link) (w : Work) (over : Bool) → slot_at i w.ring.slots ≡ Some l → rules.hello_due i l w over ≡ finished quiet (in_place i (hello_due l over) (links_of c w.ring)) w
hello_due_tie c i l w true e = rw append-nil refl
hello_due_tie c i l w false e = rw (set_here w.ring.slots i (Some l) e) refl

discharged_due_tie : (c : Settings) (i : ℕ) (l : Link) (w : Work) (over : Bool) → slot_at i w.ring.slots ≡ Some l → rules.discharged_due c i l w over ≡ finished quiet (in_place i (discharged_due c.rounds c.arbitrators l over) (links_of c w.ring)) w
discharged_due_tie c i l w true e = rw append-nil refl
discharged_due_tie c i l w false e = rw (set_here w.ring.slots i (Some l) e) (both_tie c l w)

heir_due_tie : (c : Settings) (i : ℕ) (l : Link) (w : Work) (ripe : Bool) → slot_at i w.ring.slots ≡ Some l → rules.heir_due i l w ripe ≡ finished quiet (in_place i (heir_due i l ripe) (links_of c w.ring)) w
heir_due_tie c i l w true e = rw (set_here w.ring.slots i (Some l) e, append-nil, e) refl
heir_due_tie c i l w false e = stays_tie c quiet i (Some l) w e

offered_tie : (c : Settings) (now i : ℕ) (l : Link) (w : Work) (over : Bool) → slot_at i w.ring.slots ≡ Some l → rules.lease_over c i l (λ v. send l.peer (offer_body l) v) w over ≡ finished quiet (fired_if now (announce_of w.ring) i l Offered (links_of c w.ring) over) w
offered_tie c now i l w true e = accused_tie c i l w
offered_tie c now i l w false e = rw (set_here w.ring.slots i (Some l) e) refl

transfer_again_tie : (l : Link) (first : Who × Body) (flight : Option Flight) (w : Work) → rules.transfer_again l flight (sending (first ∷ []) w) ≡ sending (first ∷ transfer_again l flight) w
transfer_again_tie l first None w = refl
transfer_again_tie l first (Some f) w = rw append_assoc refl

bound_tie : (c : Settings) (now i : ℕ) (l : Link) (w : Work) (over : Bool) → slot_at i w.ring.slots ≡ Some l → rules.lease_over c i l (λ v. v ▷ send l.peer (renew_body now l v.ring) ▷ rules.transfer_again l l.flight) w over ≡ finished quiet (fired_if now (announce_of w.ring) i l Bound (links_of c w.ring) over) w
bound_tie c now i l w true e = accused_tie c i l w
bound_tie c now i l w false e = rw (set_here w.ring.slots i (Some l) e) (transfer_again_tie l (l.peer, renew_body now l w.ring) l.flight w)

parting_tie : (c : Settings) (now i : ℕ) (l : Link) (w : Work) (over : Bool) → slot_at i w.ring.slots ≡ Some l → rules.lease_over c i l (say_gone l) w over ≡ finished quiet (fired_if now (announce_of w.ring) i l Parting (links_of c w.ring) over) w
parting_tie c now i l w true e = accused_tie c i l w
parting_tie c now i l w false e = gone_said_tie c quiet i l w e

fired_in_tie : (c : Settings) (now i : ℕ) (l : Link) (was : LinkState) (w : Work) → slot_at i w.ring.slots ≡ Some l → rules.fired_in c now i l was w ≡ finished quiet (fired_if now (announce_of w.ring) i l was (links_of c w.ring) (leases was (nat_le l.until now))) w
fired_in_tie c now i l Hello w e = hello_due_tie c i l w (nat_le l.until now) e
fired_in_tie c now i l Offered w e = offered_tie c now i l w (nat_le l.until now) e
fired_in_tie c now i l Bound w e = bound_tie c now i l w (nat_le l.until now) e
fired_in_tie c now i l Parting w e = parting_tie c now i l w (nat_le l.until now) e
fired_in_tie c now i l Accused w e = asked_tie c i l w e
fired_in_tie c now i l Discharged w e = discharged_fired-is c now i l w ∙ discharged_due_tie c i l w (nat_le (discharged_end c.answer c.rounds l) now) e
fired_in_tie c now i l Heir w e = heir_due_tie c i l w (nat_le l.ripe now) e

pub fired_at_tie : (c : Settings) (now i : ℕ) (slot : Option Link) (w : Work) → slot_at i w.ring.slots ≡ slot → rules.fired_at c now i slot w ≡ finished quiet (fired_at now (announce_of w.ring) i slot (links_of c w.ring)) w
fired_at_tie c now i None w e = same_tie c quiet w
fired_at_tie c now i (Some l) w e = fired_in_tie c now i l l.state w e

pub firing_tie : (c : Settings) (now i : ℕ) (w : Work) → rules.slot_fired c now i w ≡ counted w (finished quiet (slot_fired now (announce_of w.ring) i (links_of c w.ring)) w)
firing_tie c now i w = slot_fired-is c now i w ∙ ap (counted w) (fired_at_tie c now i (slot_at i w.ring.slots) w refl)
