-- How a start goes on.
use Rattle.std.specs.Prelude.{ℕ, Bool, ◌==◌, ◌&&◌, Option, Some, None, Result, Ok, Err, length, if◌then◌else◌}
use Rattle.keep_log.specs.declared.kept.Kept.{Kept}
use Rattle.service_file.specs.declared.beginning.Beginning.{Beginning}
use Rattle.service_file.specs.declared.beginning.Beginning.TheVariants as beginning
use Rattle.service_file.specs.declared.field.ServiceField.TheVariants.{Instance}
use Rattle.service_file.specs.declared.settings.Again.{Again}
use Rattle.serve_top.specs.declared.beginning.Begins.{Begins}
use Rattle.serve_top.specs.declared.beginning.Begins.TheVariants as begins
use Rattle.serve_top.specs.declared.end.End.{End}
use Rattle.serve_top.specs.declared.end.End.TheVariants as end
use Rattle.serve_top.specs.declared.end.FolderFault.TheVariants.{Emptied}

-- no record is kept of the actor
abbrev pub is_nothing : Kept → Bool
is_nothing kept = kept.boots == 0 && length kept.arbiter == 0

-- the last instance that the records name; None where no record is kept, and 0 for an arbitrator
abbrev pub last_of : Kept → Option ℕ
last_of kept = if is_nothing kept then None else Some kept.boots

-- the line is noted first; without `again` there is none to note
abbrev pub noted : Option Again → Begins
noted None = begins.Usual
noted (Some a) = begins.NoteAnew a

-- how the next instance begins by the `again` of line 2, or why the start is refused
abbrev pub judged : Beginning → Option Again → Result Begins End
judged beginning.Usual again = Ok begins.Usual
judged beginning.Passed again = Ok begins.Passed
judged beginning.Anew again = Ok begins.Anew
judged beginning.NoteAnew again = Ok (noted again)
judged beginning.Emptied again = Err (end.Folder Emptied)
judged beginning.WrongInstance again = Err (end.Service Instance)
