-- The ways in which a start ends.
use Rattle.std.specs.Prelude.{ℕ, List, [], codes}
use Rattle.std.specs.declared.io.ErrorKind.{ErrorKind}
use Rattle.std.specs.declared.io.ErrorKind.TheVariants as kind
use Rattle.serve_edge.specs.declared.start_fault.StartFault.{StartFault}
use Rattle.serve_edge.specs.declared.start_fault.StartFault.TheVariants as fault

abbrev pub code_of : StartFault → ℕ
code_of fault.OutOfMemory = 1
code_of fault.Read = 3
code_of fault.FolderOpen = 17
code_of fault.FolderLocked = 17
code_of fault.FolderKeep = 17
code_of fault.Key = 18
code_of fault.Door = 18
code_of fault.Page = 18

-- the last line; none where memory is missing
abbrev pub line_of : StartFault → List ℕ
line_of fault.OutOfMemory = []
line_of fault.Read = codes "fault read\n"
line_of fault.FolderOpen = codes "fault folder open\n"
line_of fault.FolderLocked = codes "fault folder locked\n"
line_of fault.FolderKeep = codes "fault folder keep\n"
line_of fault.Key = codes "fault key\n"
line_of fault.Door = codes "fault door\n"
line_of fault.Page = codes "fault page\n"

-- the fault of a step that failed so
abbrev pub fault_of : ErrorKind → StartFault → StartFault
fault_of kind.OutOfMemory otherwise = fault.OutOfMemory
fault_of _ otherwise = otherwise
