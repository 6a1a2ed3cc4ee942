use Rattle.std.proofs.Common.{◌≡◌, ◌≤◌, length, map, take}
use Rattle.node_core.proofs.unit_part.domains_of.Given as goal

abbrev pub invariant-loop-entry : goal.invariant-loop-entry
invariant-loop-entry l = record {
  domains : l.domains.items ≡ map (λ n. (n.node, n.domain)) (take l.entry-index l.entry-items);
  few : length l.domains.items ≤ l.entry-index;
}
