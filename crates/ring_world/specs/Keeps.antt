-- What a world of the code keeps of a history.
use Rattle.std.specs.Prelude.{◌≡◌, ℕ, ◌<◌, ◌^◌, length}
use Rattle.fabric_terms.specs.declared.config.FabricConfig.{FabricConfig}
use Rattle.fabric_terms.specs.Places.{place_of}
use Rattle.fabric_terms.specs.Reports.{told}
use Rattle.point_places.specs.Spots.{place_at}
use Rattle.ring_points.specs.Whos.{node_instance}
use Rattle.unit_rules.specs.Fabric.{fabric}
use Rattle.world_rules.specs.Runs.{History, run_of, world_after}
use Rattle.ring_world.specs.Stands.{Stands}
use Rattle.ring_world.specs.declared.world.World.{World}

-- it stands for the world after the history, and its places are those that the history's reports tell
pub record Keeps (a : World) (c : FabricConfig) (h : History) : Type 0 where
  pub state : Stands a (world_after fabric c h)
  pub events : a.events ≡ length h
  pub places : (p : ℕ) → p < 2 ^ 64 → place_at a.places p ≡ place_of (node_instance c.first 1) (told (run_of fabric c h)) p
