use Rattle.std.proofs.Common.{◌≡◌, ◌≤◌, length, drop}
use Rattle.fabric_steward.specs.Departures.{least_up}
use Rattle.fabric_steward.proofs.leaving_units.least_up.Given as goal

-- the least of those from this place on
abbrev pub invariant-loop-place : goal.invariant-loop-place
invariant-loop-place g l =
    (l.place ≤ length l.nodes) × (l.least ≡ least_up (g.K.Known.facts l.known) l.now l.me (drop l.place l.nodes))

abbrev pub decreases-loop-place : goal.decreases-loop-place
decreases-loop-place g l = l.place
