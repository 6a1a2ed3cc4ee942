use Rattle.std.proofs.Common.{◌≡◌, ◌++◌}
use Rattle.std.specs.List.{flat_map}
use Rattle.schedule_generate.specs.Settings.{node_behind, numbers_from}
use Rattle.schedule_generate.proofs.settings.push_others.Given as goal

abbrev pub invariant-loop-i : goal.invariant-loop-i
invariant-loop-i l = l.text.items ≡ l.fn.text.items ++ flat_map node_behind (numbers_from 2 l.i)
