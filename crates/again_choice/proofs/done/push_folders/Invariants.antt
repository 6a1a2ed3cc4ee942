use Rattle.std.proofs.Common.{◌≡◌, drop, fold}
use Rattle.again_choice.specs.Dones.{done_with_folder}
use Rattle.again_choice.proofs.done.push_folders.Given as goal

-- the folders that are left make of the list what all make
abbrev pub invariant-loop-found : goal.invariant-loop-found
invariant-loop-found l =
    fold done_with_folder l.list.items (drop l.found-index l.folders) ≡ fold done_with_folder l.fn.list.items l.folders
