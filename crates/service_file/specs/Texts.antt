-- The text of a configuration, of which the checksum is the hash: everything but addresses.
use Rattle.std.specs.Prelude.{ℕ, List, [], ◌++◌, codes, decimal, map}
use Rattle.std.specs.List.{flat_map}
use Rattle.sha2.specs.Sha256.{sha256}
use Rattle.fabric_terms.specs.declared.config.FabricConfig.{FabricConfig}
use Rattle.fabric_terms.specs.declared.config.NodeEntry.{NodeEntry}
use Rattle.text_fields.specs.Points.{point_text}

-- a number behind a word
abbrev pub numbered : List ℕ → ℕ → List ℕ
numbered word n = word ++ decimal n

-- the same as a line
unfoldable pub line : List ℕ → ℕ → List ℕ
line word n = numbered word n ++ codes "\n"

-- `node N POINT DOMAIN LONGEST`
unfoldable pub node_line : NodeEntry → List ℕ
node_line n =
    numbered (codes "node ") n.node ++ codes " " ++ point_text n.point.0 ++ numbered (codes " ") n.domain
    ++ line (codes " ") n.longest

-- `arbiter A`
abbrev pub arbiter_line : ℕ × List ℕ → List ℕ
arbiter_line a = line (codes "arbiter ") a.0

abbrev pub times_text : FabricConfig → List ℕ
times_text c =
    codes "fabricd 1\n" ++ line (codes "lease ") c.lease ++ line (codes "answer ") c.answer
    ++ line (codes "drift ") c.bound.d ++ line (codes "grain ") c.bound.grain

abbrev pub ring_text : FabricConfig → List ℕ
ring_text c = line (codes "near ") c.near ++ line (codes "rounds ") c.rounds ++ line (codes "first ") c.first

-- nodes and arbitrators are in the order of FILE
unfoldable pub text_of_config : FabricConfig → List ℕ
text_of_config c = times_text c ++ ring_text c ++ flat_map node_line c.nodes ++ flat_map arbiter_line c.arbiters

-- the checksum of a configuration
abbrev pub checksum_of : FabricConfig → List ℕ
checksum_of c = sha256 (text_of_config c)

-- a node and an arbitrator with no address
abbrev pub unaddressed : NodeEntry → NodeEntry
unaddressed node = record node { at = [] }

abbrev pub unaddressed_arbiter : ℕ × List ℕ → ℕ × List ℕ
unaddressed_arbiter arbiter = (arbiter.0, [])

-- the configuration with no address
abbrev pub without_addresses : FabricConfig → FabricConfig
without_addresses c = record c { nodes = map unaddressed c.nodes; arbiters = map unaddressed_arbiter c.arbiters }
