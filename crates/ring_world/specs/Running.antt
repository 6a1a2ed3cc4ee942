-- A running node of the code, and the one of the rules that it stands for.
use Rattle.std.specs.Prelude.{◌≡◌, ℕ, ◌≤◌, List, [], ◌∷◌}
use Rattle.drift_clock.specs.Extremes.{Stands as DriftStands}
use Rattle.fabric_terms.specs.declared.config.FabricConfig.{FabricConfig}
use Rattle.node_core.specs.Nodes.{GoesBy}
use Rattle.ring_points.specs.Limits.{most_node_number}
use Rattle.unit_rules.specs.Fabric.{fabric}
use Rattle.world_rules.specs.Worlds.{Running as RuledRunning}
use Rattle.world_rules.specs.EventLimits.{most_time}
use Rattle.ring_world.specs.declared.running.Running.{Running}

-- the greatest number of a node
abbrev pub last_node : ℕ
last_node = most_node_number

-- the node of the code is that of the rules under its number, and its clock has shown the same pairs
pub record RunsAs (c : FabricConfig) (time : ℕ) (r : Running) (e : ℕ × RuledRunning fabric) : Type 0 where
  pub number : e.1.node.ring.me.actor ≡ e.0
  pub in_range : e.0 ≤ last_node
  pub node : r.node.value.state ≡ e.1.node
  pub goes_by : GoesBy c r.node.value
  pub drift : DriftStands r.drift e.1.pairs
  pub bound : r.drift.bound ≡ c.bound
  pub latest : r.drift.latest.0 ≤ time
  pub reading : e.1.reading ≤ most_time

-- the same of all, in their order
abbrev pub AllRun : FabricConfig → ℕ → List Running → List (ℕ × RuledRunning fabric) → Type 0
AllRun c time [] [] = Unit {0}
AllRun c time [] (e ∷ es) = ⊥
AllRun c time (r ∷ rs) [] = ⊥
AllRun c time (r ∷ rs) (e ∷ es) = RunsAs c time r e × AllRun c time rs es
