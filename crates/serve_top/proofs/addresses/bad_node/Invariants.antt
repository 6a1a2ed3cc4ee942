use Rattle.std.proofs.Common.{ℕ, List, Option, drop, map}
use Rattle.serve_top.specs.Addresses.{FindsBad}
use Rattle.serve_top.proofs.addresses.bad_node.Given as goal

-- what is found in the addresses that are left is what is found in all
abbrev pub invariant-loop-node : goal.invariant-loop-node
invariant-loop-node l =
    (found : Option (List ℕ)) → FindsBad (map (λ n. n.at) (drop l.node-index l.nodes)) found → FindsBad (map (λ n. n.at) l.nodes) found
