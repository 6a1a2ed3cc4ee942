-- To part is that command of the rules.
use Rattle.std.proofs.Common.{◌≡◌, ℕ, Bool, true, false, Option, Some, None, refl, ◌∙◌}
use Rattle.ring_rules.specs.declared.link.Link.{Link}
use Rattle.ring_rules.specs.Commands as rules
use Rattle.ring_rules.specs.Links.{has_flight}
use Rattle.ring_rules.specs.Rings.{Settings, Work}
use Rattle.ring_rules.specs.Slots.{slot_at, slot_where, may_part, of_node}
use Rattle.ring_rules.proofs.Rows.{part_commanded-is}
use Rattle.link_core.specs.Calls.{part_at, part_call, part_seen, part_unless, slot_parted}
use Rattle.link_core.specs.Ties.{quiet, links_of, parted}
use Rattle.link_core.proofs.SessionTies.{stays_tie}

unless_tie : (c : Settings) (i : ℕ) (l : Link) (w : Work) (busy : Bool) → slot_at i w.ring.slots ≡ Some l → rules.part_unless i l w busy ≡ parted (Some i) w (part_at i (links_of c w.ring) (part_unless l busy))
unless_tie c i l w true e = refl
unless_tie c i l w false e = rw e refl

at_tie : (c : Settings) (i : ℕ) (slot : Option Link) (w : Work) → slot_at i w.ring.slots ≡ slot → rules.part_at i slot w ≡ parted (Some i) w (part_at i (links_of c w.ring) (slot_parted slot))
at_tie c i None w e = rw e (stays_tie c quiet i None w e)
at_tie c i (Some l) w e = unless_tie c i l w (has_flight l) e

seen_tie : (c : Settings) (w : Work) (place : Option ℕ) → rules.part_seen place w ≡ parted place w (part_seen (links_of c w.ring) place)
seen_tie c w None = refl
seen_tie c w (Some i) = at_tie c i (slot_at i w.ring.slots) w refl

pub part_tie : (c : Settings) (node : ℕ) (w : Work) → rules.part_commanded node w ≡ parted (slot_where (of_node may_part node) w.ring.slots) w (part_call node (links_of c w.ring))
part_tie c node w = part_commanded-is node w ∙ seen_tie c w (slot_where (of_node may_part node) w.ring.slots)
