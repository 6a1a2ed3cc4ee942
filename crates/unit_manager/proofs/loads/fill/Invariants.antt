use Rattle.std.proofs.Common.{◌≡◌, length}
use Rattle.unit_manager.proofs.Loading.{loaded_to}
use Rattle.unit_manager.proofs.loads.fill.Given as goal

-- the first so many are loaded
abbrev pub invariant-loop-node : goal.invariant-loop-node
invariant-loop-node l = record {
  loads : l.nodes ≡ loaded_to l.units l.node-index l.initial.nodes;
  many : length l.nodes ≡ length l.initial.nodes;
}
