-- The exit status of each way to end, and its last line.
use Rattle.std.specs.Prelude.{ℕ, List, [], ◌++◌, codes}
use Rattle.fabric_status.specs.Codes
use Rattle.fabric_status.specs.Faults.{fault_line}
use Rattle.serve_edge.specs.Faults
use Rattle.service_file.specs.Fields.{words_of}
use Rattle.serve_top.specs.declared.end.End.{End}
use Rattle.serve_top.specs.declared.end.End.TheVariants as end
use Rattle.serve_top.specs.declared.end.FolderFault.{FolderFault}
use Rattle.serve_top.specs.declared.end.FolderFault.TheVariants as folder

abbrev pub code_of : End → ℕ
code_of (end.As status) = Codes.code_of status
code_of (end.Start fault) = Faults.code_of fault
code_of (end.Service field) = 16
code_of (end.Folder fault) = 17
code_of (end.Address text) = 18
code_of end.Silent = 19
code_of end.Undone = 20
code_of end.NoDoor = 21
code_of (end.Again words) = 22

abbrev pub folder_word : FolderFault → List ℕ
folder_word folder.Actor = codes "actor"
folder_word folder.Other = codes "other"
folder_word folder.Config = codes "config"
folder_word folder.Emptied = codes "emptied"

-- these words, a text and a line feed
abbrev pub named : List ℕ → List ℕ → List ℕ
named words text = words ++ (text ++ codes "\n")

-- the last line, where there is one
abbrev pub last_line : End → List ℕ
last_line (end.As status) = fault_line status
last_line (end.Start fault) = Faults.line_of fault
last_line (end.Service field) = named (codes "fault service ") (words_of field)
last_line (end.Folder fault) = named (codes "fault folder ") (folder_word fault)
last_line (end.Address text) = named (codes "fault address ") text.items
last_line end.Silent = codes "fault silent\n"
last_line end.Undone = []
last_line end.NoDoor = codes "fault door\n"
last_line (end.Again words) = named (codes "fault again ") words.items
