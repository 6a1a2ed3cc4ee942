use Rattle.std.proofs.Common.{◌≡◌, drop}
use Rattle.ring_node.proofs.Points.{point_among}
use Rattle.ring_node.proofs.node.point_in.Given as goal

abbrev pub invariant-loop-entry : goal.invariant-loop-entry
invariant-loop-entry l = point_among l.node (drop l.entry-index l.points) ≡ point_among l.node l.points
