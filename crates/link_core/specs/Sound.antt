-- What holds of every node's links: their times are bounded, and so are those that are made of them; and their queue has
-- the ends of the slots that guard.
use Rattle.std.specs.Prelude.{◌≡◌, ℕ, ◌≤◌, List, length, Option, Some, None, All}
use Rattle.ring_rules.specs.declared.link.Link.{Link}
use Rattle.ring_rules.specs.Rings.{slot_count}
use Rattle.link_core.specs.Deadlines.{ends_of}
use Rattle.link_core.specs.Links.{Links}
use Rattle.ring_points.specs.Limits.{most_arbiters, most_drift, most_grain, most_lease, most_rounds}
use Rattle.link_core.specs.Limits.{latest_end}

pub record IsSoundLink (arbitrators : ℕ) (l : Link) : Type 0 where
  pub len : l.len ≤ most_lease
  pub until : l.until ≤ latest_end
  pub tally : l.tally.arbitrators ≡ arbitrators
  pub rounds : l.rounds.arbitrators ≡ arbitrators

abbrev pub IsSoundSlot : ℕ → Option Link → Type 0
IsSoundSlot arbitrators None = Unit {0}
IsSoundSlot arbitrators (Some l) = IsSoundLink arbitrators l

pub record AreSound (k : Links) : Type 0 where
  pub lease : k.lease ≤ most_lease
  pub longest : k.longest ≤ most_lease
  pub answer : k.answer ≤ most_lease
  pub drift : k.bound.d ≤ most_drift
  pub grain : k.bound.grain ≤ most_grain
  pub arbitrators : k.arbitrators ≤ most_arbiters
  pub rounds : k.rounds ≤ most_rounds
  pub slots : All (IsSoundSlot k.arbitrators) k.slots
  pub count : length k.slots ≡ slot_count

pub record AreKept (k : Links) (times : List ℕ) : Type 0 where
  pub sound : AreSound k
  pub ends : times ≡ ends_of k.slots
