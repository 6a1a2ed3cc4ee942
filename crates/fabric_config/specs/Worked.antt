-- Worked lines: one that is read with all defaults, and one for each way to be refused.
use Rattle.std.specs.Prelude.{ℕ, List, [], ◌∷◌, ◌++◌, codes}
use Rattle.fabric_terms.specs.declared.config.FabricConfig.{FabricConfig}

-- a line from its settings, its nodes, and what stands behind the arbitrators
abbrev pub line_of : List ℕ → List ℕ → List ℕ → List ℕ
line_of settings nodes behind =
    codes "{" ++ settings ++ codes ",\"nodes\":[" ++ nodes
    ++ codes "],\"arbiters\":[{\"arbiter\":1},{\"arbiter\":2},{\"arbiter\":3}]" ++ behind

abbrev pub one_node : List ℕ
one_node = codes "{\"node\":1,\"point\":\"0000000000000000\"}"

abbrev pub node_1_twice : List ℕ
node_1_twice = codes "{\"node\":1,\"point\":\"0000000000000000\"},{\"node\":1,\"point\":\"0000000000000001\"}"

abbrev pub settings : List ℕ
settings = codes "\"lease\":3000,\"answer\":1000,\"drift\":10,\"grain\":1"

abbrev pub without_drift : List ℕ
without_drift = codes "\"lease\":3000,\"answer\":1000,\"grain\":1"

abbrev pub with_drift_200 : List ℕ
with_drift_200 = codes "\"lease\":3000,\"answer\":1000,\"drift\":200,\"grain\":1"

-- what the line of one node is read as
abbrev pub one_node_config : FabricConfig
one_node_config = record {
  first = 1;
  near = 0;
  rounds = 1;
  lease = 3000;
  answer = 1000;
  bound = record { d = 10; grain = 1 };
  nodes = record { node = 1; point = record { 0 = 0 }; domain = 1; at = []; longest = 3000 } ∷ [];
  arbiters = (1, []) ∷ (2, []) ∷ (3, []) ∷ [];
}
