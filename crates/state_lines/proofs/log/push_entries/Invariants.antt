use Rattle.std.proofs.Common.{◌≡◌, ◌++◌, drop}
use Rattle.std.specs.Prelude.{map}
use Rattle.text_fields.specs.Texts.{Keeps}
use Rattle.state_lines.specs.Answers.{lines_text}
use Rattle.state_lines.specs.Logs.{entry_line}
use Rattle.state_lines.proofs.log.push_entries.Given as goal

-- what is written so far, and what is left to write
abbrev pub invariant-loop-entry : goal.invariant-loop-entry
invariant-loop-entry l =
    (l.into.items ++ lines_text l.tag (map (entry_line l.partition) (drop l.entry-index l.entries))
    ≡ l.fn.into.items ++ lines_text l.tag (map (entry_line l.partition) l.entries))
    × Keeps l.fn.into.items l.into.items
