use Rattle.std.proofs.Common.{◌≡◌, [], drop, take}
use Rattle.again_choice.specs.Folders.{first_fault}
use Rattle.again_choice.proofs.folder.first_fault.Given as goal

-- nothing is wrong with the folders so far
abbrev pub invariant-loop-place : goal.invariant-loop-place
invariant-loop-place l =
    first_fault l.config l.checksum (take l.place l.folders) (drop l.place l.folders)
    ≡ first_fault l.config l.checksum [] l.folders
