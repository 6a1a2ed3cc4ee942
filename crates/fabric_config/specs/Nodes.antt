-- The list of nodes, and the first node.
use Rattle.std.specs.Prelude.{ℕ, ◌==◌, ◌||◌, Bool, List, [], ◌∷◌, ◌++◌, find, Option, Some, None, option_map, option_and_then, Result, Ok, Err, if◌then◌else◌}
use Rattle.std.specs.List.{list_any}
use Rattle.ring_points.specs.Limits.{least_lease, most_domains, most_lease, most_node_number, most_nodes}
use Rattle.serde_json.specs.Data.{Data}
use Rattle.serde_json.specs.Find.{get, as_str}
use Rattle.ring_points.specs.declared.point.Point.{Point}
use Rattle.fabric_terms.specs.declared.config.NodeEntry.{NodeEntry}
use Rattle.fabric_config.specs.declared.error.ConfigError.{ConfigError}
use Rattle.fabric_config.specs.declared.error.ConfigError.TheVariants.{OutOfRange, Repeated}
use Rattle.fabric_config.specs.declared.field.Field.{Field}
use Rattle.fabric_config.specs.Checks.{◌>>=◌, or_missing}
use Rattle.fabric_config.specs.Fields.{name_of}
use Rattle.fabric_config.specs.Numbers.{whole, required, optional}
use Rattle.fabric_config.specs.Points.{point_of}
use Rattle.fabric_config.specs.Entries.{list_of, entry_of, address_of}

unfoldable pub point_in : Data → Result Point ConfigError
point_in d =
    or_missing Field.Point (option_and_then point_of (option_and_then as_str (get (name_of Field.Point) d)))

-- one node; the lease is the default of the longest that it agrees to
unfoldable pub node_of : ℕ → Data → Result NodeEntry ConfigError
node_of lease d = do
  entry ← entry_of Field.Nodes d
  number ← required Field.Node 1 most_node_number entry
  place ← point_in entry
  domain ← optional Field.Domain 1 most_domains 1 entry
  address ← address_of entry
  longest ← optional Field.Longest least_lease most_lease lease entry
  Ok (record { node = number; point = place; domain = domain; at = address; longest = longest })

-- one entry after another
abbrev pub entries_of : ℕ → List Data → Result (List NodeEntry) ConfigError
entries_of lease [] = Ok []
entries_of lease (d ∷ ds) = do
  node ← node_of lease d
  nodes ← entries_of lease ds
  Ok (node ∷ nodes)

-- b has the number or the point of a
abbrev pub repeats : NodeEntry → NodeEntry → Bool
repeats a b = a.node == b.node || a.point.0 == b.point.0

-- the first node whose number or point an earlier one has
abbrev pub first_repeated : List NodeEntry → List NodeEntry → Option ℕ
first_repeated earlier [] = None
first_repeated earlier (node ∷ nodes) =
    if list_any (λ a. repeats a node) earlier then Some node.node
    else first_repeated (earlier ++ node ∷ []) nodes

abbrev pub unless_repeated : List NodeEntry → Option ℕ → Result (List NodeEntry) ConfigError
unless_repeated nodes None = Ok nodes
unless_repeated nodes (Some node) = Err (Repeated node)

-- all nodes: their entries, and then that none repeats an earlier one
unfoldable pub nodes_of : ℕ → Data → Result (List NodeEntry) ConfigError
nodes_of lease d = do
  entries ← list_of Field.Nodes most_nodes d
  nodes ← entries_of lease entries
  unless_repeated nodes (first_repeated [] nodes)

abbrev pub or_not_listed : ℕ → Option ℕ → Result ℕ ConfigError
or_not_listed number None = Err (OutOfRange Field.First number)
or_not_listed number (Some node) = Ok node

-- the number, if a node has it
abbrev pub listed : ℕ → List NodeEntry → Option ℕ
listed number nodes = option_map (λ node. node.node) (find (λ node. node.node == number) nodes)

-- the first node, which must be listed
unfoldable pub first_of : List NodeEntry → Data → Result ℕ ConfigError
first_of nodes d = do
  value ← or_missing Field.First (get (name_of Field.First) d)
  number ← whole Field.First value
  or_not_listed number (listed number nodes)
