use Rattle.std.proofs.Common.{◌≡◌, drop}
use Rattle.ring_route.specs.Entries.{is_node}
use Rattle.ring_node.proofs.Points.{numbered}
use Rattle.ring_node.proofs.frames.has_node.Given as goal

abbrev pub invariant-loop-entry : goal.invariant-loop-entry
invariant-loop-entry l = is_node l.actor (numbered (drop l.entry-index l.points)) ≡ is_node l.actor (numbered l.points)
