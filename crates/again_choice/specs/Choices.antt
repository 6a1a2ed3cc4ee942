-- What folders lead to.
use Rattle.std.specs.Prelude.{◌≡◌, ◌≢◌, ℕ, ◌+◌, List, [], length, map, nat_lt, Option, Some, None, Result, Ok, Err, if◌then◌else◌}
use Rattle.fabric_terms.specs.declared.config.FabricConfig.{FabricConfig}
use Rattle.service_file.specs.declared.settings.ServiceSettings.{ServiceSettings}
use Rattle.service_file.specs.Entries.{most_declared}
use Rattle.again_choice.specs.declared.candidate.Candidate.{Candidate}
use Rattle.again_choice.specs.declared.choice.Choice.{Choice}
use Rattle.again_choice.specs.declared.done.Done.{Done}
use Rattle.again_choice.specs.declared.folder.Found.{Found}
use Rattle.again_choice.specs.declared.refusal.AgainRefusal.{AgainRefusal}
use Rattle.again_choice.specs.declared.refusal.AgainRefusal.TheVariants.{Many, NoNode, OutOfMemory}
use Rattle.again_choice.specs.Candidates.{best_of}
use Rattle.again_choice.specs.Dones.{declared_of, done_of}
use Rattle.again_choice.specs.Folders.{first_fault, missing_arbiter, missing_node, or_else}

-- what is wrong with the folders
abbrev pub refused : FabricConfig → List ℕ → List Found → Option AgainRefusal
refused c checksum folders =
    or_else (or_else (first_fault c checksum [] folders) (missing_node c folders)) (missing_arbiter c folders)

-- this node's next instance, and these partitions
abbrev pub choice_with : Option Candidate → List Done → Result Choice AgainRefusal
choice_with None done = Err NoNode
choice_with (Some best) done =
    if nat_lt most_declared (length done) then Err Many
    else Ok (record { partitions = map declared_of done; again = record { node = best.node; instance = best.last + 1 } })

abbrev pub choice_unless : Option AgainRefusal → List Found → Result Choice AgainRefusal
choice_unless (Some refusal) folders = Err refusal
choice_unless None folders = choice_with (best_of folders) (done_of folders)

-- what folders lead to, or the first refusal
abbrev pub choice_of : FabricConfig → List ℕ → List Found → Result Choice AgainRefusal
choice_of c checksum folders = choice_unless (refused c checksum folders) folders

-- the answer is the one that is defined, but for want of memory
abbrev pub Chooses : Result Choice AgainRefusal → Result Choice AgainRefusal → Type 0
Chooses defined (Ok choice) = defined ≡ Ok choice
Chooses defined (Err refusal) = refusal ≢ OutOfMemory → defined ≡ Err refusal

-- the settings of a service with what was chosen
abbrev pub settings_with : ServiceSettings → Choice → ServiceSettings
settings_with settings choice = record settings { partitions = choice.partitions; again = Some choice.again }
