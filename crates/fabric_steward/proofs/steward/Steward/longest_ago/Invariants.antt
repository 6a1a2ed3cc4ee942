use Rattle.std.proofs.Common.{◌≡◌, ◌≤◌, length, drop}
use Rattle.fabric_steward.specs.Greetings.{longest_ago}
use Rattle.fabric_steward.proofs.steward.Steward.longest_ago.Given as goal

-- the one of those from this place on
abbrev pub invariant-loop-place : goal.invariant-loop-place
invariant-loop-place g l =
    (l.place ≤ length l.nodes) × (l.longest ≡ longest_ago (g.K.Known.facts l.known) l.now l.self (drop l.place l.nodes))

abbrev pub decreases-loop-place : goal.decreases-loop-place
decreases-loop-place g l = l.place
