use Rattle.std.proofs.Common.{◌≡◌, ◌++◌, take}
use Rattle.std.specs.List.{flat_map}
use Rattle.text_fields.specs.Texts.{Keeps}
use Rattle.write_safety.specs.Lines.{kept_line}
use Rattle.write_safety.proofs.lines.push_log.Given as goal

abbrev pub invariant-loop-entry : goal.invariant-loop-entry
invariant-loop-entry l =
    (l.into.items ≡ l.fn.into.items ++ flat_map (kept_line l.log.partition l.log.data_loss) (take l.entry-index l.entry-items)) × Keeps l.fn.into.items l.into.items
