-- The values of fields.
use Rattle.std.specs.Prelude.{ℕ, ◌-◌, ◌==◌, ◌&&◌, Bool, true, not, nat_le, List, [], ◌∷◌, length, Option, Some, None, is_some, option_map, option_and_then, Result, Ok, if◌then◌else◌}
use Rattle.std.specs.List.{list_any, list_all, filter_map}
use Rattle.ring_points.specs.Limits.{most_counter, most_members, most_nodes, most_partitions}
use Rattle.serde_json.specs.Data.{Data}
use Rattle.serde_json.specs.Find.{as_array, as_number, as_object, as_u64}
use Rattle.fabric_terms.specs.declared.config.FabricConfig.{FabricConfig}
use Rattle.service_file.specs.declared.error.ServiceError.{ServiceError}
use Rattle.service_file.specs.declared.field.ServiceField.{ServiceField}
use Rattle.service_file.specs.declared.settings.Again.{Again}
use Rattle.service_file.specs.declared.settings.Declared.{Declared}
use Rattle.service_file.specs.Checks.{◌>>=◌, or_bad, checked}
use Rattle.service_file.specs.Fields.{given}
use Rattle.fabric_config.specs.Entries.{elements}
use Rattle.fabric_config.specs.Nodes.{listed}

-- a whole number from low to high
abbrev pub in_range : ℕ → ℕ → ℕ → Option ℕ
in_range low high n = if nat_le low n && nat_le n high then Some n else None

unfoldable pub number_in : ℕ → ℕ → Data → Option ℕ
number_in low high d = option_and_then (in_range low high) (option_and_then as_u64 (as_number d))

-- the number of a configured node
unfoldable pub configured_in : FabricConfig → Data → Option ℕ
configured_in c d = option_and_then (λ n. listed n c.nodes) (option_and_then as_u64 (as_number d))

-- no number comes twice
abbrev pub are_apart : List ℕ → Bool
are_apart [] = true
are_apart (n ∷ ns) = not (list_any (λ m. m == n) ns) && are_apart ns

-- the entries of a list of at most this many
abbrev pub short_list : ServiceField → ℕ → Data → Result (List Data) ServiceError
short_list field most d = do
  items ← or_bad field (as_array d)
  checked field (nat_le (length (elements items)) most) (elements items)

abbrev pub list_or_none : ServiceField → ℕ → Option Data → Result (List Data) ServiceError
list_or_none field most None = Ok []
list_or_none field most (Some d) = short_list field most d

-- none where the field is absent
unfoldable pub list_of : ServiceField → ℕ → Data → Result (List Data) ServiceError
list_of field most d = list_or_none field most (given field d)

-- the list of these, if each passes this check
abbrev pub all_pass : ServiceField → (Data → Bool) → List Data → Result (List Data) ServiceError
all_pass field test entries = checked field (list_all test entries) entries

-- configured nodes, each once
unfoldable pub join_of : FabricConfig → Data → Result (List ℕ) ServiceError
join_of c d = do
  entries ← list_of ServiceField.Join most_nodes d
  nodes ← all_pass ServiceField.Join (λ e. is_some (configured_in c e)) entries
  checked ServiceField.Join (are_apart (filter_map (configured_in c) nodes)) (filter_map (configured_in c) nodes)

abbrev pub is_object : Data → Bool
is_object d = is_some (as_object d)

unfoldable pub partition_in : Data → Option ℕ
partition_in entry = option_and_then (number_in 0 (most_partitions - 1)) (given ServiceField.Partition entry)

unfoldable pub replicas_in : Data → Option ℕ
replicas_in entry = option_and_then (number_in 1 most_members) (given ServiceField.Replicas entry)

abbrev pub declared : ℕ → ℕ → Declared
declared partition replicas = record { partition = partition; replicas = replicas }

-- an entry with both its fields
unfoldable pub declared_in : Data → Option Declared
declared_in entry =
    option_and_then (λ partition. option_map (declared partition) (replicas_in entry)) (partition_in entry)

-- the most entries of the list
abbrev pub most_declared : ℕ
most_declared = 256

-- objects, each partition once, and then both fields of each
unfoldable pub partitions_of : Data → Result (List Declared) ServiceError
partitions_of d = do
  entries ← list_of ServiceField.Partitions most_declared d
  objects ← all_pass ServiceField.Partitions is_object entries
  once ← checked ServiceField.Partitions (are_apart (filter_map partition_in objects)) objects
  numbered ← all_pass ServiceField.Partition (λ e. is_some (partition_in e)) once
  counted ← all_pass ServiceField.Replicas (λ e. is_some (replicas_in e)) numbered
  Ok (filter_map declared_in counted)

-- an object with both fields
abbrev pub again_given : FabricConfig → Data → Result (Option Again) ServiceError
again_given c d = do
  node_value ← or_bad ServiceField.Again (given ServiceField.Node d)
  instance_value ← or_bad ServiceField.Again (given ServiceField.Instance d)
  node ← or_bad ServiceField.Node (configured_in c node_value)
  instance ← or_bad ServiceField.Instance (number_in 2 most_counter instance_value)
  Ok (Some (record { node = node; instance = instance }))

abbrev pub again_or_none : FabricConfig → Option Data → Result (Option Again) ServiceError
again_or_none c None = Ok None
again_or_none c (Some d) = again_given c d

unfoldable pub again_of : FabricConfig → Data → Result (Option Again) ServiceError
again_of c d = again_or_none c (given ServiceField.Again d)
