-- How a start goes on, by the folder and by `again`.
use Rattle.std.specs.Prelude.{ℕ, ◌+◌, ◌==◌, ◌&&◌, Bool, List, nat_le, Option, Some, None, is_none, unwrap_or, if◌then◌else◌}
use Rattle.std.specs.List.{list_any}
use Rattle.service_file.specs.declared.actor_file.ActorFile.{ActorFile}
use Rattle.service_file.specs.declared.beginning.Beginning.{Beginning}
use Rattle.service_file.specs.declared.beginning.Beginning.TheVariants.{Usual, NoteAnew, Anew, Passed, Emptied, WrongInstance}
use Rattle.service_file.specs.declared.settings.Again.{Again}

-- the file has the line of this instance
abbrev pub is_noted : Again → List Again → Bool
is_noted a again = list_any (λ noted. noted.node == a.node && noted.instance == a.instance) again

-- by the last instance of the records, that of `again`, and whether the file has its line
abbrev pub anew_by : ℕ → ℕ → Bool → Beginning
anew_by last instance noted =
    if last + 1 == instance then (if noted then Anew else NoteAnew)
    else (if nat_le instance last then Passed else (if noted then Emptied else WrongInstance))

-- `again` is for its own node alone
abbrev pub begins_with : ActorFile → ℕ → Option Again → Beginning
begins_with f last None = Usual
begins_with f last (Some a) = if a.node == f.actor then anew_by last a.instance (is_noted a f.again) else Usual

-- by the last instance of the records, None where no record is kept
unfoldable pub begins_by : ActorFile → Option ℕ → Option Again → Beginning
begins_by f last again = if f.has_begun && is_none last then Emptied else begins_with f (unwrap_or last 0) again
