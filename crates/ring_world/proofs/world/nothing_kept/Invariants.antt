use Rattle.std.proofs.Common.{◌≡◌, replicate}
use Rattle.node_core.specs.Nodes.{nothing_kept}
use Rattle.ring_world.proofs.world.nothing_kept.Given as goal

abbrev pub invariant-loop : goal.invariant-loop
invariant-loop l = l.kept.items ≡ replicate l.counter nothing_kept
