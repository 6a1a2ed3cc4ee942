-- Who runs, and what it owns by its state.
use Rattle.std.specs.Prelude.{◌≡◌, ℕ, Some}
use Rattle.fabric_terms.specs.declared.config.FabricConfig.{FabricConfig}
use Rattle.fabric_terms.specs.Runs.{Owned}
use Rattle.ring_points.specs.declared.who.Who.{Who}
use Rattle.ring_rules.specs.Rings.{Ring}
use Rattle.ring_rules.specs.Slots.{fence_of}
use Rattle.fabric_lemmas.specs.Maps.{at}
use Rattle.world_rules.specs.Uppers.{Upper}
use Rattle.world_rules.specs.Worlds.{World, Running}

-- the ranges and the fence of a ring
abbrev pub owned_by : FabricConfig → Ring → Owned
owned_by c r = record { ranges = r.token.ranges; fence = fence_of c.answer r.slots }

-- the instance x runs, and its clock shows this reading
pub record RunsAt {a : Upper} (w : World a) (x : Who) (reading : ℕ) : Type 0 where
  pub node : ℕ
  pub state : Running a
  pub here : at node w.nodes ≡ Some state
  pub name : state.node.ring.me ≡ x
  pub reads : state.reading ≡ reading
