use Rattle.std.proofs.Common.{◌≡◌, ◌++◌, drop}
use Rattle.std.specs.Prelude.{codes}
use Rattle.std.specs.List.{flat_map}
use Rattle.text_fields.specs.Texts.{Keeps}
use Rattle.line_format.specs.Lists.{names_text}
use Rattle.report_lines.proofs.report.list.push_names.Given as goal

-- what is written so far, and what is left to write
abbrev pub invariant-loop-name : goal.invariant-loop-name
invariant-loop-name l =
    (l.into.items ++ flat_map (λ n. codes "," ++ n) (drop l.name-index l.more) ≡ l.fn.into.items ++ names_text l.names)
    × Keeps l.fn.into.items l.into.items
