use Rattle.std.proofs.Common.{◌≡◌, ◌++◌, drop}
use Rattle.text_fields.specs.Texts.{Keeps}
use Rattle.state_lines.specs.Answers.{lines_text}
use Rattle.state_lines.specs.States.{link_lines}
use Rattle.state_lines.proofs.node_state.push_links.Given as goal

-- what is written so far, and what is left to write
abbrev pub invariant-loop-slot : goal.invariant-loop-slot
invariant-loop-slot l =
    (l.into.items ++ lines_text l.tag (link_lines (drop l.slot-index l.slots)) ≡ l.fn.into.items ++ lines_text l.tag (link_lines l.slots))
    × Keeps l.fn.into.items l.into.items
