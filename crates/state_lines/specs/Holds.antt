-- What a parent may serve: for how long a point, and whether it leads a partition.
use Rattle.std.specs.Prelude.{ℕ, ◌+◌, min, nat_lt, Bool, not, ◌&&◌, Option, Some, None, if◌then◌else◌}
use Rattle.fabric_terms.specs.declared.config.FabricConfig.{FabricConfig}
use Rattle.hold_span.specs.Span.{span}
use Rattle.hold_span.specs.declared.span.TheConstants.{MAX_FENCE}
use Rattle.replica_core.specs.Replicas.{Replica}
use Rattle.ring_points.specs.Epochs.{is_older}
use Rattle.ring_points.specs.Ranges.{in_ranges}
use Rattle.ring_points.specs.declared.point.Point.{Point}
use Rattle.ring_rules.specs.Slots.{fence_of}
use Rattle.unit_replica.specs.Tables.{replica_at}
use Rattle.unit_rules.specs.Fabric.{fabric}
use Rattle.unit_rules.specs.Progress.{is_primary}
use Rattle.world_rules.specs.Nodes.{NodeState}
use Rattle.door_lines.specs.Words.{Follows, Held, Leads, Unheld, Words}

-- The reading up to which the node surely holds what it owns at this one: its fence. Without one it ends where that of a link
-- would which began now.
abbrev pub end_by : FabricConfig → (now : ℕ) → Option ℕ → ℕ
end_by c now None = now + c.lease + c.answer
end_by c now (Some fence) = fence

-- for how many ticks, counted from its question, a parent may serve what the node owns
abbrev pub ticks_held : FabricConfig → (now : ℕ) → Option ℕ → ℕ
ticks_held c now fence = span c.bound (min (end_by c now fence) MAX_FENCE) now

-- a point that is in flight is not owned
abbrev pub held_words : Bool → ℕ → ℕ → Words
held_words owns point ticks = if owns && nat_lt 0 ticks then Held point ticks else Unheld point

unfoldable pub held_of : FabricConfig → NodeState fabric → (now : ℕ) → Point → Words
held_of c s now point = held_words (in_ranges point.0 s.ring.token.ranges) point.0 (ticks_held c now (fence_of c.answer s.ring.slots))

-- it is primary of an epoch, and has promised no greater one
abbrev pub leads : Replica → Bool
leads r = is_primary r.role && not (is_older r.at r.promised)

abbrev pub lead_words : ℕ → Option Replica → Words
lead_words partition None = Follows partition
lead_words partition (Some r) = if leads r then Leads partition r.at else Follows partition

unfoldable pub lead_of : NodeState fabric → (partition : ℕ) → Words
lead_of s partition = lead_words partition (replica_at partition s.above.states)
