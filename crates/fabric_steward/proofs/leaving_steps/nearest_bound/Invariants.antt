use Rattle.std.proofs.Common.{◌≡◌, ◌≤◌, length, drop}
use Rattle.fabric_steward.specs.Departures.{nearest_bound}
use Rattle.fabric_steward.proofs.leaving_steps.nearest_bound.Given as goal

-- the nearest of those from this place on
abbrev pub invariant-loop-place : goal.invariant-loop-place
invariant-loop-place g l =
    (l.place ≤ length l.nodes) × (l.nearest ≡ nearest_bound (g.K.Linked.links l.known) l.me l.point (drop l.place l.nodes))

abbrev pub decreases-loop-place : goal.decreases-loop-place
decreases-loop-place g l = l.place
