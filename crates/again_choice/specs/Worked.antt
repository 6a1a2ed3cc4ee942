-- Worked folders of a cluster of two nodes and one arbitrator.
use Rattle.std.specs.Prelude.{ℕ, true, List, [], ◌∷◌, Result, Ok}
use Rattle.ring_points.specs.declared.unit.Epoch.{Epoch}
use Rattle.ring_points.specs.Whos.{arbiter_actor}
use Rattle.fabric_terms.specs.declared.config.FabricConfig.{FabricConfig}
use Rattle.fabric_terms.specs.declared.config.NodeEntry.{NodeEntry}
use Rattle.fabric_terms.specs.declared.record.Record.{Record}
use Rattle.fabric_terms.specs.declared.record.Record.TheVariants.{DoneFor}
use Rattle.replica_core.specs.declared.entry.Entry.{Entry}
use Rattle.replica_core.specs.Replicas.{Replica, first_replica}
use Rattle.service_file.specs.declared.actor_file.ActorFile.{ActorFile}
use Rattle.service_file.specs.declared.settings.Declared.{Declared}
use Rattle.again_choice.specs.declared.choice.Choice.{Choice}
use Rattle.again_choice.specs.declared.folder.Found.{Found}
use Rattle.again_choice.specs.declared.folder.Found.TheVariants.{Read}
use Rattle.again_choice.specs.declared.refusal.AgainRefusal.{AgainRefusal}
use Rattle.again_choice.specs.Choices.{choice_of}

abbrev pub node_entry : ℕ → ℕ → NodeEntry
node_entry node point = record { node = node; point = record { 0 = point }; domain = node; at = []; longest = 3000 }

abbrev pub cluster : FabricConfig
cluster = record {
  first = 1;
  near = 0;
  rounds = 1;
  lease = 3000;
  answer = 1000;
  bound = record { d = 10; grain = 1 };
  nodes = node_entry 1 0 ∷ node_entry 2 1 ∷ [];
  arbiters = (1, []) ∷ [];
}

abbrev pub checksum : List ℕ
checksum = 7 ∷ []

abbrev pub epoch : ℕ → Epoch
epoch number = record { data_loss = 0; configuration = number }

abbrev pub file_of : ℕ → List ℕ → ActorFile
file_of actor sum = record { actor = actor; checksum = sum; has_begun = true; again = [] }

abbrev pub folder_of : ℕ → List ℕ → ℕ → List Record → List Replica → Found
folder_of actor sum boots arbiter replicas = Read (record {
  file = file_of actor sum;
  kept = record { boots = boots; arbiter = arbiter; replicas = replicas };
})

-- a replica of partition 7 that promised this epoch
abbrev pub replica : ℕ → List Entry → Replica
replica promised log = record (first_replica 7) { promised = epoch promised; log = log }

abbrev pub entry : Entry
entry = record { epoch = epoch 1; lsn = 1; bytes = [] }

-- the node has begun so many instances, and promised this epoch
abbrev pub node_folder : ℕ → ℕ → ℕ → List Entry → Found
node_folder node boots promised log = folder_of node checksum boots [] (replica promised log ∷ [])

-- the configuration of this epoch with these members is done
abbrev pub done : ℕ → ℕ → List ℕ → Record
done partition number members =
    DoneFor (record { partition = partition; epoch = epoch number; primary = 1; members = members })

abbrev pub arbiter_folder : List Record → Found
arbiter_folder records = folder_of (arbiter_actor 1) checksum 0 records []

-- two nodes that have begun equally
abbrev pub equals : Found → List Found
equals arbiter = node_folder 2 4 3 [] ∷ node_folder 1 4 3 [] ∷ arbiter ∷ []

abbrev pub answer : List Found → Result Choice AgainRefusal
answer folders = choice_of cluster checksum folders

abbrev pub chosen : List Declared → ℕ → ℕ → Result Choice AgainRefusal
chosen partitions node instance =
    Ok (record { partitions = partitions; again = record { node = node; instance = instance } })
