-- The configuration of generated schedules, and its line.
use Rattle.std.specs.Prelude.{ℕ, ◌+◌, ◌-◌, ◌*◌, ◌^◌, zero, suc, List, [], ◌∷◌, ◌++◌, map, codes, decimal}
use Rattle.std.specs.List.{flat_map}
use Rattle.fabric_terms.specs.declared.config.FabricConfig.{FabricConfig}
use Rattle.fabric_terms.specs.declared.config.NodeEntry.{NodeEntry}
use Rattle.text_fields.specs.Points.{point_text}

-- the nodes that a generated schedule has at most
abbrev pub most_generated_nodes : ℕ
most_generated_nodes = 16

-- the numbers from this one on, so many
abbrev pub numbers_from : ℕ → ℕ → List ℕ
numbers_from first zero = []
numbers_from first (suc k) = first ∷ numbers_from (first + 1) k

-- the point of a node: the nodes stand in equal distances, the first at point 0
abbrev pub point_of_node : ℕ → ℕ
point_of_node node = (node - 1) * 2 ^ 60

abbrev pub entry_of_node : ℕ → NodeEntry
entry_of_node node = record { node = node; point = record { 0 = point_of_node node }; domain = node; at = []; longest = 3000 }

-- n nodes, each in a fault domain of its own, and three arbitrators
abbrev pub generated_config : ℕ → FabricConfig
generated_config n = record {
  first = 1;
  near = 0;
  rounds = 1;
  lease = 3000;
  answer = 1000;
  bound = record { d = 10; grain = 1 };
  nodes = map entry_of_node (numbers_from 1 n);
  arbiters = (1, []) ∷ (2, []) ∷ (3, []) ∷ [];
}

abbrev pub node_text : ℕ → List ℕ
node_text node =
    codes "{\"node\":" ++ (decimal node ++ (codes ",\"point\":\"" ++ (point_text (point_of_node node) ++ (codes "\",\"domain\":" ++ (decimal node ++ codes "}")))))

abbrev pub node_behind : ℕ → List ℕ
node_behind node = codes "," ++ node_text node

-- the nodes behind the first, each behind a comma
abbrev pub nodes_text : ℕ → List ℕ
nodes_text n = flat_map node_behind (numbers_from 2 (n - 1))

abbrev pub config_line : ℕ → List ℕ
config_line n =
    codes "{\"lease\":3000,\"answer\":1000,\"drift\":10,\"grain\":1,\"nodes\":["
    ++ (node_text 1 ++ (nodes_text n ++ codes "],\"arbiters\":[{\"arbiter\":1},{\"arbiter\":2},{\"arbiter\":3}],\"first\":1}"))
