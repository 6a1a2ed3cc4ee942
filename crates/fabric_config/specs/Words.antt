-- The words in which a fault line names an error.
use Rattle.std.specs.Prelude.{ℕ, List, ◌++◌, codes, decimal}
use Rattle.fabric_config.specs.declared.error.ConfigError.{ConfigError}
use Rattle.fabric_config.specs.declared.error.ConfigError.TheVariants.{NotJson, Missing, OutOfRange, Repeated, OutOfMemory}
use Rattle.fabric_config.specs.Fields.{name_of}

abbrev pub words_of : ConfigError → List ℕ
words_of NotJson = codes "not json"
words_of (Missing field) = codes "missing " ++ name_of field
words_of (OutOfRange field value) = codes "range " ++ name_of field ++ codes " " ++ decimal value
words_of (Repeated node) = codes "repeated " ++ decimal node
words_of OutOfMemory = codes "out of memory"
