-- Each row of links, once its notes are done, is the row of the ring's rules.
use Rattle.std.specs.Prelude.{◌≡◌, ℕ, false, IsTrue}
use Rattle.ring_points.specs.declared.who.Who.{Who}
use Rattle.fabric_terms.specs.declared.message.Body.{Body}
use Rattle.fabric_terms.specs.declared.report.Reason.{Reason}
use Rattle.ring_rules.specs.Rings.{Settings, Work}
use Rattle.ring_rules.specs.Commands.{part_commanded}
use Rattle.ring_rules.specs.Deeds.{counted, has_numbers}
use Rattle.ring_rules.specs.Firing as rules
use Rattle.ring_rules.specs.Frames as rules_of_frames
use Rattle.ring_rules.specs.Handshakes as rules_of_handshakes
use Rattle.ring_rules.specs.Links.{greeting_link}
use Rattle.ring_rules.specs.Slots.{slot_where, may_part, of_node}
use Rattle.link_core.specs.Calls.{part_call}
use Rattle.link_core.specs.Firing.{slot_fired}
use Rattle.link_core.specs.Frames.{frame_row}
use Rattle.link_core.specs.Handshakes.{greet, greeting}
use Rattle.link_core.specs.Ties.{links_of, announce_of, finished, cause_of, is_search, quiet, greeted, parted}

-- a frame
abbrev pub Hearing : Type 0
Hearing =
    (c : Settings) (now : ℕ) (from : Who) (b : Body) (w : Work) →
    IsTrue (has_numbers w.ring) →
    is_search b ≡ false →
    counted w (rules_of_frames.frame_row c now from b w) ≡ counted w (finished (cause_of b) (frame_row now (announce_of w.ring) from b (links_of c w.ring)) w)

-- a firing at one slot
abbrev pub Firing : Type 0
Firing =
    (c : Settings) (now i : ℕ) (w : Work) →
    rules.slot_fired c now i w ≡ counted w (finished quiet (slot_fired now (announce_of w.ring) i (links_of c w.ring)) w)

-- a greeting
abbrev pub Greeting : Type 0
Greeting =
    (c : Settings) (now node wire len : ℕ) (refused : Reason → Work → Work) (w : Work) →
    IsTrue (has_numbers w.ring) →
    counted w (rules_of_handshakes.greet (greeting_link c now w.ring node wire len) refused w) ≡ greeted refused w (greet (links_of c w.ring) (greeting (links_of c w.ring) now node wire len))

-- a command to part
abbrev pub Parting : Type 0
Parting =
    (c : Settings) (node : ℕ) (w : Work) →
    part_commanded node w ≡ parted (slot_where (of_node may_part node) w.ring.slots) w (part_call node (links_of c w.ring))
