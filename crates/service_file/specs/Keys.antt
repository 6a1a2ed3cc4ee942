-- The keys of the service object, and of its entries.
use Rattle.std.specs.Prelude.{ℕ, ◌&&◌, Bool, true, List, [], ◌∷◌, Option, Some, None, option_and_then}
use Rattle.std.specs.List.{list_any, list_all}
use Rattle.std.specs.Str.{bytes_eq}
use Rattle.serde_json.specs.Data.{Data, Items, Members, no_members, member}
use Rattle.serde_json.specs.Find.{as_array, as_object}
use Rattle.fabric_config.specs.Entries.{elements}
use Rattle.service_file.specs.declared.field.ServiceField.{ServiceField}
use Rattle.service_file.specs.declared.field.ServiceField.TheVariants.{Join, Partitions, Partition, Replicas, HealAfter, Lines, Again, Node, Instance}
use Rattle.service_file.specs.Fields.{words_of, given}

abbrev pub keys : Members → List (List ℕ)
keys no_members = []
keys (member key d ms) = key ∷ keys ms

abbrev pub keys_of : Option Members → List (List ℕ)
keys_of None = []
keys_of (Some ms) = keys ms

abbrev pub elements_of : Option Items → List Data
elements_of None = []
elements_of (Some ds) = elements ds

-- each key of this value is that of one of these fields; a value that is no object has no key
unfoldable pub has_only : List ServiceField → Data → Bool
has_only fields d = list_all (λ key. list_any (λ field. bytes_eq key (words_of field)) fields) (keys_of (as_object d))

abbrev pub has_only_if : List ServiceField → Option Data → Bool
has_only_if fields None = true
has_only_if fields (Some d) = has_only fields d

-- the entries of a field that is a list
abbrev pub entries_in : ServiceField → Data → List Data
entries_in field d = elements_of (option_and_then as_array (given field d))

-- no key of the object or of its entries is unknown
unfoldable pub has_known_keys : Data → Bool
has_known_keys d =
    has_only (Join ∷ Partitions ∷ HealAfter ∷ Lines ∷ Again ∷ []) d
    && list_all (has_only (Partition ∷ Replicas ∷ [])) (entries_in Partitions d)
    && has_only_if (Node ∷ Instance ∷ []) (given Again d)
