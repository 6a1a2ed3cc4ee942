-- The list of arbitrators.
use Rattle.std.specs.Prelude.{ℕ, ◌+◌, List, [], ◌∷◌, Result, Ok}
use Rattle.ring_points.specs.Limits.{most_arbiters}
use Rattle.serde_json.specs.Data.{Data}
use Rattle.fabric_config.specs.declared.error.ConfigError.{ConfigError}
use Rattle.fabric_config.specs.declared.field.Field.{Field}
use Rattle.fabric_config.specs.Checks.{◌>>=◌}
use Rattle.fabric_config.specs.Numbers.{required}
use Rattle.fabric_config.specs.Entries.{list_of, entry_of, address_of}

-- the arbitrator of this place in the list, whose number must be the same
unfoldable pub arbiter_of : ℕ → Data → Result (ℕ × List ℕ) ConfigError
arbiter_of place d = do
  entry ← entry_of Field.Arbiters d
  number ← required Field.Arbiter place place entry
  address ← address_of entry
  Ok (place, address)

-- one entry after another, from this place on
abbrev pub entries_of : ℕ → List Data → Result (List (ℕ × List ℕ)) ConfigError
entries_of place [] = Ok []
entries_of place (d ∷ ds) = do
  arbiter ← arbiter_of place d
  arbiters ← entries_of (place + 1) ds
  Ok (arbiter ∷ arbiters)

-- all arbitrators, numbered from 1
unfoldable pub arbiters_of : Data → Result (List (ℕ × List ℕ)) ConfigError
arbiters_of d = do
  entries ← list_of Field.Arbiters most_arbiters d
  entries_of 1 entries
