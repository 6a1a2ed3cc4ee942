-- What a folder of a ring is found to be.
use Rattle.std.specs.Prelude.{◌≡◌, ℕ, ◌&&◌, Bool, true, false, not, List, Option, Some, None, Result, Ok, Err, if◌then◌else◌}
use Rattle.std.specs.List.{list_all}
use Rattle.again_choice.specs.declared.folder.Found.{Found}
use Rattle.again_choice.specs.declared.folder.Found.TheVariants.{Read, Running, Unreadable}
use Rattle.keep_log.specs.declared.kept.Kept.{Kept}
use Rattle.serve_edge.specs.declared.look.LookFault.{LookFault}
use Rattle.serve_edge.specs.declared.look.LookFault.TheVariants as fault
use Rattle.service_file.specs.ActorFiles.{actor_file_of}
use Rattle.service_file.specs.Beginnings.{begins_by}
use Rattle.service_file.specs.declared.actor_file.ActorFile.{ActorFile}
use Rattle.service_file.specs.declared.beginning.Beginning.{Beginning}
use Rattle.service_file.specs.declared.beginning.Beginning.TheVariants.{Emptied}
use Rattle.service_file.specs.declared.settings.Again.{Again}
use Rattle.turn_rules.specs.declared.stop_cause.StopCause.{StopCause}
use Rattle.turn_rules.specs.declared.stop_cause.StopCause.TheVariants as stop
use Rattle.serve_top.specs.Addresses.{short}
use Rattle.serve_top.specs.Beginnings.{last_of}
use Rattle.serve_top.specs.declared.end.End.{End}

-- what a folder is that is not read; memory may be short
abbrev pub found_at : LookFault → Result Found End
found_at fault.Running = Ok Running
found_at fault.Unreadable = Ok Unreadable
found_at fault.OutOfMemory = Err short

-- what the lines of a file `actor` say; None where they are not of its grammar
abbrev pub ReadsActor : List ℕ → Result (Option ActorFile) End → Type 0
ReadsActor lines (Ok file) = actor_file_of lines ≡ file
ReadsActor lines (Err e) = e ≡ short

abbrev pub finds_none : Beginning → Bool
finds_none Emptied = true
finds_none _ = false

-- a start by this `again` finds that records are lost
abbrev pub is_emptied : ActorFile → Kept → Option Again → Bool
is_emptied f kept again = finds_none (begins_by f (last_of kept) again)

-- each record is kept of which the file knows: no start, by whichever of its lines, finds that records are lost
abbrev pub is_whole : ActorFile → Kept → Bool
is_whole f kept = not (is_emptied f kept None) && list_all (λ a. not (is_emptied f kept (Some a))) f.again

abbrev pub found_whole : ActorFile → Kept → Found
found_whole f kept = if is_whole f kept then Read (record { file = f; kept = kept }) else Unreadable

-- by what is recalled of the actor
abbrev pub found_by : ActorFile → Result Kept StopCause → Result Found End
found_by f (Ok kept) = Ok (found_whole f kept)
found_by f (Err stop.OutOfMemory) = Err short
found_by f (Err cause) = Ok Unreadable
