-- Why a folder is not read.
use Rattle.std.specs.declared.io.ErrorKind.{ErrorKind}
use Rattle.std.specs.declared.io.ErrorKind.TheVariants as kind
use Rattle.serve_edge.specs.declared.look.LookFault.{LookFault}
use Rattle.serve_edge.specs.declared.look.LookFault.TheVariants as fault

-- by how a look has failed: the lock of a file that a process has is not taken
abbrev pub look_fault_of : ErrorKind → LookFault
look_fault_of kind.OutOfMemory = fault.OutOfMemory
look_fault_of kind.WouldBlock = fault.Running
look_fault_of _ = fault.Unreadable
