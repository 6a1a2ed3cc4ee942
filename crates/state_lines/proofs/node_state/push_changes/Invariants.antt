use Rattle.std.proofs.Common.{◌≡◌, ◌++◌, drop}
use Rattle.text_fields.specs.Texts.{Keeps}
use Rattle.unit_manager.specs.Managers.{reconfigs_of}
use Rattle.state_lines.specs.Answers.{lines_text}
use Rattle.state_lines.specs.States.{changing_lines}
use Rattle.state_lines.proofs.node_state.push_changes.Given as goal

-- what is written so far, and what is left to write
abbrev pub invariant-loop-partition : goal.invariant-loop-partition
invariant-loop-partition l =
    (l.into.items ++ lines_text l.tag (changing_lines l.now l.changes (reconfigs_of (drop l.partition-index l.reconfigs)))
    ≡ l.fn.into.items ++ lines_text l.tag (changing_lines l.now l.changes (reconfigs_of l.reconfigs)))
    × Keeps l.fn.into.items l.into.items
