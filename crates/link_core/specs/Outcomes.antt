-- What the two calls that do rows come to, in one record each.
use Rattle.std.specs.Prelude.{◌≡◌, ℕ, ◌+◌, ◌≤◌, false, List, length, take}
use Rattle.ring_points.specs.declared.who.Who.{Who}
use Rattle.fabric_terms.specs.declared.message.Body.{Body}
use Rattle.fabric_terms.specs.declared.message.Message.{Message}
use Rattle.ring_rules.specs.Firing as rules_of_firing
use Rattle.ring_rules.specs.Frames as rules_of_frames
use Rattle.ring_rules.specs.Slots.{slot_at}
use Rattle.link_core.specs.declared.announce.Announce.{Announce}
use Rattle.link_core.specs.Firing.{slot_fired}
use Rattle.link_core.specs.Frames.{frame_row}
use Rattle.link_core.specs.Links.{Links, Did, did_after}
use Rattle.link_core.specs.Ties.{Does, cause_of, is_search, quiet}
use Rattle.link_core.specs.Limits.{most_row_messages, most_row_notes}

-- The links heard a frame: its row was done, behind the frames that were sent before. A frame changes slots and the
-- number of the next session alone.
pub record FrameHeard (now : ℕ) (a : Announce) (m : Message) (old : Links) (before : List (Who × Body)) (d : Did) : Type 0 where
  pub did : d ≡ did_after before (frame_row now a m.from m.body old)
  pub row : is_search m.body ≡ false → Does (λ c. rules_of_frames.frame_row c now m.from m.body) (cause_of m.body) old a before d
  pub kept : d.links ≡ record old { slots = d.links.slots; next_session = d.links.next_session }
  pub sessions : old.next_session ≤ d.links.next_session
  pub few : length d.sent ≤ length before + most_row_messages
  pub notes : length d.notes ≤ most_row_notes

-- A firing did the row of a slot, behind the frames that were sent before. It changes slots and the accused
-- alone.
pub record SlotFired (now i : ℕ) (a : Announce) (old : Links) (before : List (Who × Body)) (d : Did) : Type 0 where
  pub did : d ≡ did_after before (slot_fired now a i old)
  pub row : Does (λ c w. rules_of_firing.fired_at c now i (slot_at i w.ring.slots) w) quiet old a before d
  pub kept : d.links ≡ record old { slots = d.links.slots; accused = d.links.accused }
  pub accused : take (length old.accused) d.links.accused ≡ old.accused
  pub few : length d.sent ≤ length before + most_row_messages
  pub notes : length d.notes ≤ most_row_notes
