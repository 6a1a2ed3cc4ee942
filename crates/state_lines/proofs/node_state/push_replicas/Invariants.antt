use Rattle.std.proofs.Common.{◌≡◌, ◌++◌, drop}
use Rattle.std.specs.List.{flat_map}
use Rattle.text_fields.specs.Texts.{Keeps}
use Rattle.unit_replica.specs.Tables.{replica_at}
use Rattle.state_lines.specs.Answers.{lines_text}
use Rattle.state_lines.specs.States.{replica_line, replica_lines}
use Rattle.state_lines.proofs.node_state.push_replicas.Given as goal

-- what is written so far, and what is left to write
abbrev pub invariant-loop-partition : goal.invariant-loop-partition
invariant-loop-partition l =
    let states = l.core.state.above.states in
    (l.into.items ++ lines_text l.tag (flat_map (λ p. replica_line p (replica_at p states)) (drop l.partition-index l.partition-items))
    ≡ l.fn.into.items ++ lines_text l.tag (replica_lines states))
    × Keeps l.fn.into.items l.into.items
