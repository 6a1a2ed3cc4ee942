use Rattle.std.proofs.Common.{◌≡◌, drop}
use Rattle.std.specs.Prelude.{fold}
use Rattle.serve_top.specs.Counts.{counts_of_roles, with_role}
use Rattle.serve_top.proofs.node_counts.counts_of_roles.Given as goal

-- what is counted so far, and what is left to count
abbrev pub invariant-loop-replica : goal.invariant-loop-replica
invariant-loop-replica l = fold with_role l.counts (drop l.replica-index l.replicas) ≡ counts_of_roles l.replicas
