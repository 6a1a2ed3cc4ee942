-- A row in a session, by the row of its slot.
use Rattle.std.proofs.Common.{◌≡◌, ℕ, Option, Some, None, refl}
use Rattle.std.proofs.lemmas.List.{append-nil}
use Rattle.ring_points.specs.declared.who.Who.{Who}
use Rattle.ring_rules.specs.declared.link.Link.{Link}
use Rattle.ring_rules.specs.Deeds as rules
use Rattle.ring_rules.specs.Rings.{Settings, Work}
use Rattle.ring_rules.specs.Slots.{slot_at}
use Rattle.link_core.specs.Links.{Did, SlotRow, stays, same, in_place, in_found, unknown, gone_said}
use Rattle.link_core.specs.Ties.{Cause, links_of, finished}
use Rattle.link_core.proofs.Places.{set_here}

-- nothing is done
pub same_tie : (c : Settings) (cause : Cause) (w : Work) → w ≡ finished cause (same (links_of c w.ring)) w
same_tie c cause w = rw append-nil refl

-- nothing is done to the slot
pub stays_tie : (c : Settings) (cause : Cause) (i : ℕ) (slot : Option Link) (w : Work) → slot_at i w.ring.slots ≡ slot → w ≡ finished cause (in_place i (stays slot) (links_of c w.ring)) w
stays_tie c cause i slot w e = rw (set_here w.ring.slots i slot e, append-nil) refl

-- a slot that parts says Gone
pub gone_said_tie : (c : Settings) (cause : Cause) (i : ℕ) (l : Link) (w : Work) → slot_at i w.ring.slots ≡ Some l → rules.say_gone l w ≡ finished cause (in_place i (gone_said l) (links_of c w.ring)) w
gone_said_tie c cause i l w e = rw (set_here w.ring.slots i (Some l) e) refl

pub unknown_tie : (c : Settings) (cause : Cause) (from : Who) (theirs own : ℕ) (w : Work) → rules.answer_unknown from theirs own w ≡ finished cause (unknown from theirs own (links_of c w.ring)) w
unknown_tie c cause from theirs own w = refl

-- the row of each link in the place
abbrev pub SlotTie : Settings → Cause → rules.SessionRow → (ℕ → SlotRow) → Work → Type 0
SlotTie c cause rule row w = (i : ℕ) (l : Link) → slot_at i w.ring.slots ≡ Some l → rule i l l.state w ≡ finished cause (in_place i (row i (Some l)) (links_of c w.ring)) w

pub place_tie : (c : Settings) (cause : Cause) (rule : rules.SessionRow) (row : ℕ → SlotRow) (w : Work) (i : ℕ) (slot : Option Link) → SlotTie c cause rule row w → ((j : ℕ) → row j None ≡ stays None) → slot_at i w.ring.slots ≡ slot → rules.in_slot rule i slot w ≡ finished cause (in_place i (row i slot) (links_of c w.ring)) w
place_tie c cause rule row w i None h none e = rw none (stays_tie c cause i None w e)
place_tie c cause rule row w i (Some l) h none e = h i l e

pub session_tie : (c : Settings) (cause : Cause) (rule : rules.SessionRow) (row : ℕ → SlotRow) (rule_none : Work → Work) (none : Did) (w : Work) (place : Option ℕ) → SlotTie c cause rule row w → ((j : ℕ) → row j None ≡ stays None) → rule_none w ≡ finished cause none w → rules.in_found rule rule_none place w ≡ finished cause (in_found row none (links_of c w.ring) place) w
session_tie c cause rule row rule_none none w None h k n = n
session_tie c cause rule row rule_none none w (Some i) h k n = place_tie c cause rule row w i (slot_at i w.ring.slots) h k refl
