-- Whose a folder is.
use Rattle.std.specs.Prelude.{◌≡◌, ◌≢◌, ℕ, List, Some, None, Result, Ok, Err}
use Rattle.service_file.specs.ActorFiles.{actor_file_of}
use Rattle.service_file.specs.declared.actor_file.ActorFile.{ActorFile}
use Rattle.serve_top.specs.Addresses.{short}
use Rattle.serve_top.specs.declared.end.End.{End}
use Rattle.serve_top.specs.declared.end.End.TheVariants as end
use Rattle.serve_top.specs.declared.end.FolderFault.TheVariants as folder

-- the file is good, and of this actor
abbrev pub IsOf : List ℕ → (ActorFile → Type 0) → Type 0
IsOf bytes P = (file : ActorFile) × (actor_file_of bytes ≡ Some file) × P file

-- The first test that the file `actor` fails: its grammar, its actor, its configuration. Want of memory may come in place of
-- any answer.
abbrev pub JudgesActor : List ℕ → ℕ → List ℕ → Result ActorFile End → Type 0
JudgesActor bytes actor checksum (Ok file) = (actor_file_of bytes ≡ Some file) × (file.actor ≡ actor) × (file.checksum ≡ checksum)
JudgesActor bytes actor checksum (Err (end.Folder folder.Actor)) = actor_file_of bytes ≡ None
JudgesActor bytes actor checksum (Err (end.Folder folder.Other)) = IsOf bytes (λ file. file.actor ≢ actor)
JudgesActor bytes actor checksum (Err (end.Folder folder.Config)) = IsOf bytes (λ file. (file.actor ≡ actor) × (file.checksum ≢ checksum))
JudgesActor bytes actor checksum (Err e) = e ≡ short
