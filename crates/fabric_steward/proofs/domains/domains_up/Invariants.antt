use Rattle.std.proofs.Common.{◌≡◌, ◌+◌, ◌≤◌, length, drop}
use Rattle.fabric_steward.specs.Domains.{domains_up}
use Rattle.fabric_steward.proofs.domains.domains_up.Given as goal

-- the domains of those from this place on
abbrev pub invariant-loop-place : goal.invariant-loop-place
invariant-loop-place g l =
    (l.count + l.place ≤ length l.nodes) × (l.count ≡ domains_up (g.K.Known.facts l.known) l.now (drop l.place l.nodes))

abbrev pub decreases-loop-place : goal.decreases-loop-place
decreases-loop-place g l = l.place
