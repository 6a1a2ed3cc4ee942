use Rattle.std.proofs.Common.{◌≡◌, ◌++◌, drop}
use Rattle.std.specs.List.{flat_map}
use Rattle.unit_replica.specs.Tables.{replica_at}
use Rattle.serve_top.specs.NodeFacts.{replica_fact, replica_facts}
use Rattle.serve_top.proofs.node_facts.replicas_of.Given as goal

-- what is found so far, and what is left to look at
abbrev pub invariant-loop-partition : goal.invariant-loop-partition
invariant-loop-partition l =
    let states = l.core.state.above.states in
    l.facts.items ++ flat_map (λ p. replica_fact p (replica_at p states)) (drop l.partition-index l.partition-items) ≡ replica_facts states
