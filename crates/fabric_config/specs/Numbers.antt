-- Fields that hold whole numbers.
use Rattle.std.specs.Prelude.{ℕ, ◌&&◌, Option, Some, None, option_and_then, Result, Ok, Err, nat_le, if◌then◌else◌}
use Rattle.serde_json.specs.Data.{Data}
use Rattle.serde_json.specs.Find.{get, as_number, as_u64}
use Rattle.fabric_config.specs.declared.error.ConfigError.{ConfigError}
use Rattle.fabric_config.specs.declared.error.ConfigError.TheVariants.{OutOfRange}
use Rattle.fabric_config.specs.declared.field.Field.{Field}
use Rattle.fabric_config.specs.Checks.{◌>>=◌, or_missing}
use Rattle.fabric_config.specs.Fields.{name_of}

-- a whole number below 2^64
abbrev pub whole : Field → Data → Result ℕ ConfigError
whole field d = or_missing field (option_and_then as_u64 (as_number d))

-- the number, if it is one of least to greatest
abbrev pub in_range : Field → ℕ → ℕ → ℕ → Result ℕ ConfigError
in_range field least greatest n =
    if nat_le least n && nat_le n greatest then Ok n else Err (OutOfRange field n)

abbrev pub number : Field → ℕ → ℕ → Data → Result ℕ ConfigError
number field least greatest d = whole field d >>= in_range field least greatest

-- the number of a field that must stand
unfoldable pub required : Field → ℕ → ℕ → Data → Result ℕ ConfigError
required field least greatest d =
    or_missing field (get (name_of field) d) >>= number field least greatest

abbrev pub number_or : Field → ℕ → ℕ → ℕ → Option Data → Result ℕ ConfigError
number_or field least greatest default None = Ok default
number_or field least greatest default (Some d) = number field least greatest d

-- the number of a field that may be absent
unfoldable pub optional : Field → ℕ → ℕ → ℕ → Data → Result ℕ ConfigError
optional field least greatest default d = number_or field least greatest default (get (name_of field) d)
