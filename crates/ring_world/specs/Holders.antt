-- What a node in code holds.
use Rattle.std.specs.Prelude.{ℕ, List, ◌∷◌, Some}
use Rattle.ring_points.specs.declared.interval.Interval.{Interval}
use Rattle.node_core.specs.Nodes.{Core}
use Rattle.ring_rules.specs.Slots.{fence_of}
use Rattle.fabric_terms.specs.Runs.{Owned}
use Rattle.point_places.specs.Holders.{held_ranges}

-- what a node owns, and up to which reading it holds that
abbrev pub owned_of : Core → Owned
owned_of n = record { ranges = n.state.ring.token.ranges; fence = fence_of n.settings.answer n.state.ring.slots }

-- what it holds at this reading
abbrev pub held_now : ℕ → Core → List Interval
held_now reading n = held_ranges (Some reading) (Some (owned_of n))
