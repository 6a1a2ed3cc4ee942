-- Starts of nodes.
use Rattle.std.specs.Prelude.{◌≡◌, ℕ, ◌+◌, List, [], ◌∷◌, Some, nat_lt, slice_get, if◌then◌else◌}
use Rattle.fabric_terms.specs.declared.record.Record.{Record}
use Rattle.node_core.specs.Nodes.{Amounts, Core, Does, GoesBy, IsSmall}
use Rattle.node_core.specs.declared.kept.NodeKept.{NodeKept}
use Rattle.node_core.specs.declared.outcome.Outcome.{Outcome}
use Rattle.ring_points.specs.declared.who.Who.{Who}
use Rattle.world_rules.specs.Nodes.{node_begun}
use Rattle.unit_rules.specs.Fabric.{fabric}
use Rattle.ring_world.specs.declared.world.World.{World}

-- the place of the first clock of a greater node, or that behind all
abbrev pub place_for : ℕ → List (Who × ℕ) → ℕ
place_for node [] = 0
place_for node (k ∷ ks) = if nat_lt node k.0.actor then 0 else 1 + place_for node ks

-- the node begins from what is kept of it
pub record Begins (a : World) (node : ℕ) (new : Core) (o : Outcome) : Type 0 where
  pub kept : NodeKept
  pub here : slice_get a.kept.items node ≡ Some kept
  pub begins : (records : List Record) → Amounts records kept → Does (node_begun fabric a.config node records) new o
  pub goes_by : GoesBy a.config new
  pub small : IsSmall new.state o
