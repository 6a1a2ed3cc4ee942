use Rattle.std.proofs.Common.{◌≡◌, map, take}
use Rattle.serde_json.specs.View.{view}
use Rattle.again_choice.specs.Lines.{declared_data}
use Rattle.again_choice.proofs.line.partitions.Given as goal

-- the partitions so far
abbrev pub invariant-loop-entry : goal.invariant-loop-entry
invariant-loop-entry l = map view l.list.items ≡ map declared_data (take l.entry-index l.entries)
