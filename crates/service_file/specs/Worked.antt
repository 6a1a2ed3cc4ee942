-- Worked lines of the service object, for a configuration of one node, and worked files `actor`.
use Rattle.std.specs.Prelude.{ℕ, true, List, [], ◌∷◌, ◌++◌, codes, Option, Some}
use Rattle.service_file.specs.declared.actor_file.ActorFile.{ActorFile}
use Rattle.service_file.specs.declared.settings.Again.{Again}
use Rattle.service_file.specs.declared.settings.LineChoice.TheVariants.{AllLines}
use Rattle.service_file.specs.declared.settings.ServiceSettings.{ServiceSettings}

-- a line that says everything
abbrev pub everything_line : List ℕ
everything_line =
    codes "{\"join\":[1],\"partitions\":[{\"partition\":7,\"replicas\":3},{\"partition\":0,\"replicas\":1}],"
    ++ codes "\"heal_after\":900,\"lines\":\"all\",\"again\":{\"node\":1,\"instance\":2}}"

-- what it is read as
abbrev pub everything : ServiceSettings
everything = record {
  join = 1 ∷ [];
  partitions = record { partition = 7; replicas = 3 } ∷ record { partition = 0; replicas = 1 } ∷ [];
  heal_after = 900;
  lines = AllLines;
  again = Some (record { node = 1; instance = 2 });
}

-- instance K of node 1
abbrev pub allowed : ℕ → Option Again
allowed instance = Some (record { node = 1; instance = instance })

-- node 1 has begun, and its instance 5 was allowed to begin again
abbrev pub begun_file : ActorFile
begun_file = record {
  actor = 1;
  checksum = [];
  has_begun = true;
  again = record { node = 1; instance = 5 } ∷ [];
}
