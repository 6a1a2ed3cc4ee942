-- What the entries of both lists have in common.
use Rattle.std.specs.Prelude.{ℕ, List, [], ◌∷◌, length, Option, Some, None, is_some, option_and_then, Result, Ok, Err, if◌then◌else◌}
use Rattle.serde_json.specs.Data.{Data, Items, no_items, item}
use Rattle.serde_json.specs.Find.{get, as_str, as_array, as_object}
use Rattle.fabric_config.specs.declared.error.ConfigError.{ConfigError}
use Rattle.fabric_config.specs.declared.error.ConfigError.TheVariants.{Missing}
use Rattle.fabric_config.specs.declared.field.Field.{Field}
use Rattle.fabric_config.specs.Checks.{◌>>=◌, or_missing}
use Rattle.fabric_config.specs.Fields.{name_of}
use Rattle.fabric_config.specs.Numbers.{in_range}

abbrev pub elements : Items → List Data
elements no_items = []
elements (item d ds) = d ∷ elements ds

-- the entries of a field that must be a list, of at least 1 and at most this many
unfoldable pub list_of : Field → ℕ → Data → Result (List Data) ConfigError
list_of field most d = do
  items ← or_missing field (option_and_then as_array (get (name_of field) d))
  size ← in_range field 1 most (length (elements items))
  Ok (elements items)

-- an entry of a list, which must be an object
abbrev pub entry_of : Field → Data → Result Data ConfigError
entry_of list d = if is_some (as_object d) then Ok d else Err (Missing list)

abbrev pub text_or_empty : Option Data → Result (List ℕ) ConfigError
text_or_empty None = Ok []
text_or_empty (Some d) = or_missing Field.At (as_str d)

-- where an actor listens: empty where the entry does not say
unfoldable pub address_of : Data → Result (List ℕ) ConfigError
address_of d = text_or_empty (get (name_of Field.At) d)
