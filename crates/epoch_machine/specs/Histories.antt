-- Histories: the deeds that were done, the latest first.
use Rattle.std.specs.Prelude.{List, [], ◌∷◌}
use Rattle.epoch_machine.specs.Settings.{Settings}
use Rattle.epoch_machine.specs.World.{World, empty_world}
use Rattle.epoch_machine.specs.Deeds.{Deed}
use Rattle.epoch_machine.specs.Guards.{Can}
use Rattle.epoch_machine.specs.Effects.{after}

-- the world that the deeds lead to
abbrev pub world_after : List Deed → World
world_after [] = empty_world
world_after (deed ∷ deeds) = after (world_after deeds) deed

-- each deed may happen after those before it
abbrev pub Valid : Settings → List Deed → Type 0
Valid c [] = Unit {0}
Valid c (deed ∷ deeds) = Can c (world_after deeds) deed × Valid c deeds
