use Rattle.std.proofs.Common.{◌≡◌, ◌++◌, drop}
use Rattle.unit_manager.specs.Managers.{reconfigs_of}
use Rattle.serve_top.specs.NodeFacts.{change_facts}
use Rattle.serve_top.proofs.node_facts.changes_of.Given as goal

-- what is found so far, and what is left to look at
abbrev pub invariant-loop-partition : goal.invariant-loop-partition
invariant-loop-partition l =
    l.facts.items ++ change_facts l.now l.changes (reconfigs_of (drop l.partition-index l.reconfigs)) ≡ change_facts l.now l.changes (reconfigs_of l.reconfigs)
