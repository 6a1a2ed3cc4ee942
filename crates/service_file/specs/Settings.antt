-- What line 2 is read as, check by check.
use Rattle.std.specs.Prelude.{ℕ, List, [], ◌∷◌, codes, Option, Some, None, option_and_then, Result, Ok, Err, if◌then◌else◌}
use Rattle.std.specs.Str.{bytes_eq, is_utf8}
use Rattle.ring_points.specs.Limits.{most_lease}
use Rattle.serde_json.specs.Data.{Data}
use Rattle.serde_json.specs.Find.{as_str}
use Rattle.serde_json.specs.Read.{read}
use Rattle.fabric_terms.specs.declared.config.FabricConfig.{FabricConfig}
use Rattle.service_file.specs.declared.error.ServiceError.{ServiceError}
use Rattle.service_file.specs.declared.error.ServiceError.TheVariants.{Bad}
use Rattle.service_file.specs.declared.field.ServiceField.{ServiceField}
use Rattle.service_file.specs.declared.settings.LineChoice.{LineChoice}
use Rattle.service_file.specs.declared.settings.LineChoice.TheVariants.{SomeLines, AllLines}
use Rattle.service_file.specs.declared.settings.ServiceSettings.{ServiceSettings}
use Rattle.service_file.specs.Checks.{◌>>=◌, or_bad, checked}
use Rattle.service_file.specs.Fields.{given}
use Rattle.service_file.specs.Keys.{has_known_keys}
use Rattle.service_file.specs.Entries.{again_of, is_object, join_of, number_in, partitions_of}

abbrev pub if_object : Option Data → Result Data ServiceError
if_object None = Err (Bad ServiceField.Json)
if_object (Some d) = checked ServiceField.Json (is_object d) d

-- the JSON object that the bytes spell
unfoldable pub document_of : List ℕ → Result Data ServiceError
document_of line = if is_utf8 line then if_object (read line) else Err (Bad ServiceField.Json)

abbrev pub ticks_or_lease : FabricConfig → Option Data → Result ℕ ServiceError
ticks_or_lease c None = Ok c.lease
ticks_or_lease c (Some d) = or_bad ServiceField.HealAfter (number_in 1 most_lease d)

abbrev pub choice_named : List ℕ → Option LineChoice
choice_named text =
    if bytes_eq text (codes "some") then Some SomeLines
    else (if bytes_eq text (codes "all") then Some AllLines else None)

abbrev pub choice_or_some : Option Data → Result LineChoice ServiceError
choice_or_some None = Ok SomeLines
choice_or_some (Some d) = or_bad ServiceField.Lines (option_and_then choice_named (as_str d))

-- the checks of an object, in their order
unfoldable pub settings_of : FabricConfig → Data → Result ServiceSettings ServiceError
settings_of c d = do
  known ← checked ServiceField.Unknown (has_known_keys d) d
  join ← join_of c known
  partitions ← partitions_of known
  heal_after ← ticks_or_lease c (given ServiceField.HealAfter known)
  lines ← choice_or_some (given ServiceField.Lines known)
  again ← again_of c known
  Ok (record { join = join; partitions = partitions; heal_after = heal_after; lines = lines; again = again })

-- each field has its default
abbrev pub defaults : FabricConfig → ServiceSettings
defaults c = record { join = []; partitions = []; heal_after = c.lease; lines = SomeLines; again = None }

-- what a line is read as
unfoldable pub service_of : FabricConfig → List ℕ → Result ServiceSettings ServiceError
service_of c [] = Ok (defaults c)
service_of c (b ∷ bs) = document_of (b ∷ bs) >>= settings_of c
