-- What is told of what an actor did.
use Rattle.std.specs.Prelude.{ℕ, List, [], Option, Some, None}
use Rattle.ring_world.specs.Answers.{entry_of}
use Rattle.ring_world.specs.declared.world.Acted.{Acted}
use Rattle.schedule_rules.specs.Output.{entry_lines}

abbrev pub told_lines : Option Acted → List ℕ
told_lines None = []
told_lines (Some a) = entry_lines a.line a.time (entry_of (Some a))
