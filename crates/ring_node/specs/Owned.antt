-- What a node owned at a moment, and what it tells of a later one.
use Rattle.std.specs.Prelude.{Bool, not, ◌&&◌, ◌||◌, List}
use Rattle.fabric_terms.specs.declared.report.Report.{Report}
use Rattle.join_phases.specs.Phases.{is_left}
use Rattle.ring_node.specs.declared.ownership.Owned.{Owned}
use Rattle.ring_node.specs.Nodes.{Node}
use Rattle.ring_rules.specs.Owns.{own_unless, same_fence, same_ranges}
use Rattle.ring_rules.specs.Slots.{fence_of}

abbrev pub owned_of : Node → Owned
owned_of n = record { ranges = n.ring.token.ranges; fence = fence_of n.settings.answer n.ring.slots; left = is_left n.ring.phase }

-- the ranges and the fence are the same, and the node has not left since
abbrev pub owns_same : Owned → Node → Bool
owns_same o n = same_ranges o.ranges n.ring.token.ranges && same_fence o.fence (fence_of n.settings.answer n.ring.slots) && (o.left || not (is_left n.ring.phase))

abbrev pub own_since : Owned → Node → List Report
own_since o n = own_unless n.settings n.ring (owns_same o n)
