-- What a row of links leaves as it is, and how much it sends and leaves to do.
use Rattle.std.specs.Prelude.{◌≡◌, ◌≤◌, length, take}
use Rattle.link_core.specs.Links.{Links, Did}
use Rattle.link_core.specs.Limits.{most_row_messages, most_row_notes}

-- a frame changes slots and the number of the next session alone, which never falls
pub record IsHeard (old : Links) (d : Did) : Type 0 where
  pub kept : d.links ≡ record old { slots = d.links.slots; next_session = d.links.next_session }
  pub sessions : old.next_session ≤ d.links.next_session
  pub sent : length d.sent ≤ most_row_messages
  pub notes : length d.notes ≤ most_row_notes

-- a firing changes slots and the accused alone, and accuses at the end of the list
pub record IsFired (old : Links) (d : Did) : Type 0 where
  pub kept : d.links ≡ record old { slots = d.links.slots; accused = d.links.accused }
  pub accused : take (length old.accused) d.links.accused ≡ old.accused
  pub sent : length d.sent ≤ most_row_messages
  pub notes : length d.notes ≤ most_row_notes
