use Rattle.std.proofs.Common.{◌≡◌, drop}
use Rattle.fabric_steward.specs.Departures.{point_of}
use Rattle.fabric_steward.proofs.departure.point_of.Given as goal

-- the node is among those that are left
abbrev pub invariant-loop-node : goal.invariant-loop-node
invariant-loop-node l = point_of l.me (drop l.node-index l.nodes) ≡ point_of l.me l.nodes
