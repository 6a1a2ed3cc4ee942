use Rattle.std.proofs.Common.{◌≡◌, length, map, take}
use Rattle.unit_manager.specs.Laws.{unloaded_at}
use Rattle.node_core.proofs.unit_loads.fill_unloaded.Given as goal

-- the first so many are filled in
abbrev pub invariant-loop-i : goal.invariant-loop-i
invariant-loop-i l = record {
  filled : take l.i l.nodes ≡ map (unloaded_at l.since l.ring.ring) (take l.i l.domains);
  many : length l.nodes ≡ length l.domains;
}
