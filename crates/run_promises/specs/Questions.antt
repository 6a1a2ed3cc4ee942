-- Questions about names, and the reports that answer them.
use Rattle.std.specs.Prelude.{Bool, true, false}
use Rattle.fabric_terms.specs.declared.command.Command.{Command}
use Rattle.fabric_terms.specs.declared.command.Command.TheVariants as command
use Rattle.fabric_terms.specs.declared.event.Event.{Event}
use Rattle.fabric_terms.specs.declared.event.Event.TheVariants.{Do}
use Rattle.fabric_terms.specs.declared.report.Report.{Report}
use Rattle.fabric_terms.specs.declared.report.Report.TheVariants as report

-- an answer, and no refusal
abbrev pub tells_names : Report → Bool
tells_names (report.Resolved p name value) = true
tells_names (report.Unresolved p name) = true
tells_names (report.NameList p names) = true
tells_names _ = false

-- whether a command asks about names
abbrev pub asks_names : Command → Bool
asks_names (command.Resolve partition name) = true
asks_names (command.Names partition range) = true
asks_names _ = false

-- whether an event asks a node about names
abbrev pub is_question : Event → Bool
is_question (Do node asked) = asks_names asked
is_question _ = false
