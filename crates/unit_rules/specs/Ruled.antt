-- The world of the rules where the fabric runs above the ring.
use Rattle.fabric_terms.specs.declared.config.FabricConfig.{FabricConfig}
use Rattle.world_rules.specs.Runs.{History, world_after}
use Rattle.world_rules.specs.Worlds.{World}
use Rattle.unit_rules.specs.Fabric.{fabric}

-- the world of the rules after a history
abbrev pub ruled : FabricConfig → History → World fabric
ruled c h = world_after fabric c h
