-- Hello, heard and sent, is that of the rules, and needs a number.
use Rattle.std.proofs.Common.{◌≡◌, ℕ, ◌+◌, Bool, true, false, Option, Some, None, IsTrue, refl, sym, ap, ◌∙◌, arith, nat_lt, ◌==◌, slice_set}
use Rattle.std.proofs.lemmas.Bool.Decides.{nat_tests}
use Rattle.std.proofs.lemmas.List.{append-nil}
use Rattle.ring_points.specs.declared.who.Who.{Who}
use Rattle.fabric_terms.specs.declared.report.Reason.{Reason}
use Rattle.fabric_terms.specs.declared.report.Why.TheVariants.{Counters}
use Rattle.ring_rules.specs.declared.link.Link.{Link}
use Rattle.ring_rules.specs.declared.link.LinkState.{LinkState}
use Rattle.ring_rules.specs.declared.link.LinkState.TheVariants.{Offered}
use Rattle.ring_rules.specs.Deeds.{counted, has_numbers, leave, on_ring}
use Rattle.ring_rules.specs.Handshakes as rules
use Rattle.ring_rules.specs.Links.{greeting_link, offered_link}
use Rattle.ring_rules.specs.Rings.{Ring, Settings, Slots, Work}
use Rattle.ring_rules.specs.Slots.{slot_at, slot_where, is_free, is_hello, bars_link, of_instance, of_node}
use Rattle.ring_rules.proofs.Rows.{hello_received-is}
use Rattle.link_core.specs.Links.{in_place, is_spent, no_number}
use Rattle.link_core.specs.Handshakes.{accept, accept_free, accept_counted, greet, greet_counted, greet_free, greet_unless, greeting, hello_crossed, hello_of_node, hello_repeated, hello_of_instance, offer_repeated_to, offer_same, hello_received}
use Rattle.link_core.specs.Ties.{quiet, links_of, finished, greeted}
use Rattle.link_core.proofs.Places.{set_here}
use Rattle.link_core.proofs.SessionTies.{same_tie, stays_tie}

-- one more session has no number
pub no_more : (r : Ring) (s : Slots) → nat_lt 4294967295 r.next_session ≡ true → has_numbers (record r { slots = s; next_session = r.next_session + 1 }) ≡ false
no_more r s e = grind (arith, nat_tests)

-- who leaves for want of a number has left by the rules
pub left_counted : (w new : Work) → has_numbers new.ring ≡ false → counted w new ≡ leave Counters w
left_counted w new e = rw e refl

pub leave_counted : (w : Work) → IsTrue (has_numbers w.ring) → counted w (leave Counters w) ≡ leave Counters w
leave_counted w h = rw h refl

pub spent_tie : (c : Settings) (w : Work) → IsTrue (has_numbers w.ring) → leave Counters w ≡ counted w (finished quiet (no_number (links_of c w.ring)) w)
spent_tie c w h = rw append-nil (sym (leave_counted w h))

-- with these slots in place of the own ones
abbrev with_slots : Slots → Work → Work
with_slots s w = on_ring (λ r. record r { slots = s }) w

accept_counted_tie : (c : Settings) (w : Work) (s : Slots) (l : Link) (i : ℕ) (spent : Bool) → IsTrue (has_numbers w.ring) → is_spent (links_of c w.ring) ≡ spent → counted w (rules.accept_free l (with_slots s w) (Some i)) ≡ counted w (finished quiet (accept_counted (links_of c w.ring) (record (links_of c w.ring) { slots = s }) l i spent) w)
accept_counted_tie c w s l i true h e = left_counted w (rules.accept_free l (with_slots s w) (Some i)) (no_more w.ring (slice_set s i (Some l)) e) ∙ spent_tie c w h
accept_counted_tie c w s l i false h e = refl

accept_free_tie : (c : Settings) (w : Work) (s : Slots) (l : Link) (place : Option ℕ) → IsTrue (has_numbers w.ring) → counted w (rules.accept_free l (with_slots s w) place) ≡ counted w (finished quiet (accept_free (links_of c w.ring) (record (links_of c w.ring) { slots = s }) l place) w)
accept_free_tie c w s l None h = rw append-nil refl
accept_free_tie c w s l (Some i) h = accept_counted_tie c w s l i (is_spent (links_of c w.ring)) h refl

pub accept_tie : (c : Settings) (w : Work) (s : Slots) (l : Link) → IsTrue (has_numbers w.ring) → counted w (rules.hello_accepted l (with_slots s w)) ≡ counted w (finished quiet (accept (links_of c w.ring) (record (links_of c w.ring) { slots = s }) l) w)
accept_tie c w s l h = accept_free_tie c w s l (slot_where is_free s) h

crossed_tie : (c : Settings) (w : Work) (l : Link) (i : ℕ) (lower : Bool) → IsTrue (has_numbers w.ring) → counted w (rules.hello_crossed l i w lower) ≡ counted w (finished quiet (hello_crossed (links_of c w.ring) l i lower) w)
crossed_tie c w l i true h = ap (counted w) (same_tie c quiet w)
crossed_tie c w l i false h = accept_tie c w (slice_set w.ring.slots i None) l h

of_node_tie : (c : Settings) (w : Work) (l : Link) (place : Option ℕ) → IsTrue (has_numbers w.ring) → counted w (rules.hello_of_node l w place) ≡ counted w (finished quiet (hello_of_node (links_of c w.ring) l place) w)
of_node_tie c w l None h = accept_tie c w w.ring.slots l h
of_node_tie c w l (Some i) h = crossed_tie c w l i (nat_lt w.ring.me.actor l.peer.actor) h

same_offer_tie : (c : Settings) (i : ℕ) (l : Link) (again : Bool) (w : Work) → slot_at i w.ring.slots ≡ Some l → rules.offer_same l w again ≡ finished quiet (in_place i (offer_same l again) (links_of c w.ring)) w
same_offer_tie c i l true w e = rw (set_here w.ring.slots i (Some l) e) refl
same_offer_tie c i l false w e = stays_tie c quiet i (Some l) w e

again_tie : (c : Settings) (theirs i : ℕ) (l : Link) (was : LinkState) (w : Work) → slot_at i w.ring.slots ≡ Some l → rules.offer_again theirs l was w ≡ finished quiet (in_place i (offer_repeated_to theirs l was) (links_of c w.ring)) w
again_tie c theirs i l Offered w e = same_offer_tie c i l (l.yours == theirs) w e
again_tie c theirs i l _ w e = stays_tie c quiet i (Some l) w e

repeated_tie : (c : Settings) (theirs i : ℕ) (slot : Option Link) (w : Work) → slot_at i w.ring.slots ≡ slot → rules.hello_repeated theirs slot w ≡ finished quiet (in_place i (hello_repeated theirs slot) (links_of c w.ring)) w
repeated_tie c theirs i None w e = stays_tie c quiet i None w e
repeated_tie c theirs i (Some l) w e = again_tie c theirs i l l.state w e

of_instance_tie : (c : Settings) (w : Work) (l : Link) (place : Option ℕ) → IsTrue (has_numbers w.ring) → counted w (rules.hello_of_instance l w place) ≡ counted w (finished quiet (hello_of_instance (links_of c w.ring) l place) w)
of_instance_tie c w l (Some i) h = ap (counted w) (repeated_tie c l.yours i (slot_at i w.ring.slots) w refl)
of_instance_tie c w l None h = of_node_tie c w l (slot_where (of_node is_hello l.peer.actor) w.ring.slots) h

pub hello_tie : (c : Settings) (now : ℕ) (from : Who) (theirs wire len : ℕ) (w : Work) → IsTrue (has_numbers w.ring) → counted w (rules.hello_received c now from theirs wire len w) ≡ counted w (finished quiet (hello_received now from theirs wire len (links_of c w.ring)) w)
hello_tie c now from theirs wire len w h =
    ap (counted w) (hello_received-is c now from theirs wire len w)
    ∙ of_instance_tie c w (offered_link c now w.ring from theirs wire len) (slot_where (of_instance from) w.ring.slots) h

-- a greeting

greet_counted_tie : (c : Settings) (w : Work) (l : Link) (refused : Reason → Work → Work) (i : ℕ) (spent : Bool) → IsTrue (has_numbers w.ring) → is_spent (links_of c w.ring) ≡ spent → counted w (rules.greet_free l refused w (Some i)) ≡ greeted refused w (greet_counted (links_of c w.ring) l i spent)
greet_counted_tie c w l refused i true h e = left_counted w (rules.greet_free l refused w (Some i)) (no_more w.ring (slice_set w.ring.slots i (Some l)) e)
greet_counted_tie c w l refused i false h e = refl

greet_free_tie : (c : Settings) (w : Work) (l : Link) (refused : Reason → Work → Work) (place : Option ℕ) → IsTrue (has_numbers w.ring) → counted w (rules.greet_free l refused w place) ≡ greeted refused w (greet_free (links_of c w.ring) l place)
greet_free_tie c w l refused None h = refl
greet_free_tie c w l refused (Some i) h = greet_counted_tie c w l refused i (is_spent (links_of c w.ring)) h refl

greet_unless_tie : (c : Settings) (w : Work) (l : Link) (refused : Reason → Work → Work) (place : Option ℕ) → IsTrue (has_numbers w.ring) → counted w (rules.greet_unless l refused w place) ≡ greeted refused w (greet_unless (links_of c w.ring) l place)
greet_unless_tie c w l refused (Some i) h = refl
greet_unless_tie c w l refused None h = greet_free_tie c w l refused (slot_where is_free w.ring.slots) h

pub greet_tie : (c : Settings) (now node wire len : ℕ) (refused : Reason → Work → Work) (w : Work) → IsTrue (has_numbers w.ring) → counted w (rules.greet (greeting_link c now w.ring node wire len) refused w) ≡ greeted refused w (greet (links_of c w.ring) (greeting (links_of c w.ring) now node wire len))
greet_tie c now node wire len refused w h = greet_unless_tie c w (greeting_link c now w.ring node wire len) refused (slot_where (of_node bars_link node) w.ring.slots) h
