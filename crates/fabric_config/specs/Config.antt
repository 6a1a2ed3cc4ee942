-- The configuration that a line is read as.
use Rattle.std.specs.Prelude.{ℕ, ◌||◌, ◌==◌, Bool, List, length, Option, Some, None, is_some, Result, Ok, Err, if◌then◌else◌}
use Rattle.std.specs.List.{list_any}
use Rattle.std.specs.Str.{is_utf8}
use Rattle.ring_points.specs.Limits.{least_lease, most_lease, most_rounds}
use Rattle.serde_json.specs.Data.{Data}
use Rattle.serde_json.specs.Read.{read}
use Rattle.serde_json.specs.Find.{as_object}
use Rattle.fabric_terms.specs.declared.config.FabricConfig.{FabricConfig}
use Rattle.fabric_config.specs.declared.error.ConfigError.{ConfigError}
use Rattle.fabric_config.specs.declared.error.ConfigError.TheVariants.{NotJson}
use Rattle.fabric_config.specs.declared.field.Field.{Field}
use Rattle.fabric_config.specs.Checks.{◌>>=◌}
use Rattle.fabric_config.specs.Numbers.{required, optional}
use Rattle.fabric_config.specs.Nodes.{nodes_of, first_of}
use Rattle.fabric_config.specs.Arbiters.{arbiters_of}

abbrev pub if_object : Option Data → Result Data ConfigError
if_object None = Err NotJson
if_object (Some d) = if is_some (as_object d) then Ok d else Err NotJson

-- the JSON object that the bytes spell
unfoldable pub document_of : List ℕ → Result Data ConfigError
document_of line = if is_utf8 line then if_object (read line) else Err NotJson

-- the checks of an object, in their order
unfoldable pub config_of : Data → Result FabricConfig ConfigError
config_of d = do
  lease ← required Field.Lease least_lease most_lease d
  answer ← required Field.Answer 1 most_lease d
  drift ← required Field.Drift 0 100 d
  grain ← required Field.Grain 0 1000000 d
  near ← optional Field.Near 0 4 0 d
  rounds ← optional Field.Rounds 1 most_rounds 1 d
  nodes ← nodes_of lease d
  arbiters ← arbiters_of d
  first ← first_of nodes d
  Ok (record {
    first = first;
    near = near;
    rounds = rounds;
    lease = lease;
    answer = answer;
    bound = record { d = drift; grain = grain };
    nodes = nodes;
    arbiters = arbiters;
  })

unfoldable pub config_of_line : List ℕ → Result FabricConfig ConfigError
config_of_line line = document_of line >>= config_of

-- a node or an arbitrator has no address
abbrev pub lacks_address : FabricConfig → Bool
lacks_address c = list_any (λ n. length n.at == 0) c.nodes || list_any (λ a. length a.1 == 0) c.arbiters
