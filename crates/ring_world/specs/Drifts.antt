-- Which clock leaves its bound first in a tick, and by which pair.
use Rattle.std.specs.Prelude.{ℕ, ◌+◌, List, [], ◌∷◌, Option, Some, None}
use Rattle.drift_clock.specs.Refusals.{broken_with}
use Rattle.drift_clock.specs.Within.{Pair}
use Rattle.drift_clock.specs.declared.drift.DriftBroken.{DriftBroken}
use Rattle.fabric_terms.specs.declared.config.FabricConfig.{FabricConfig}
use Rattle.fabric_terms.specs.declared.event.Event.{Event}
use Rattle.fabric_terms.specs.declared.event.Event.TheVariants.{Tick}
use Rattle.fabric_lemmas.specs.Maps.{at}
use Rattle.world_rules.specs.Uppers.{Upper}
use Rattle.world_rules.specs.Worlds.{World, Running}

abbrev pub shown_by : Pair → Option Pair → Option DriftBroken → Option DriftBroken
shown_by now (Some earlier) others = Some (record { earlier = earlier; now = now })
shown_by now None others = others

abbrev pub broken_of : {a : Upper} → FabricConfig → Pair → Option (Running a) → Option DriftBroken → Option DriftBroken
broken_of c now None others = others
broken_of c now (Some s) others = shown_by now (broken_with c.bound s.pairs now) others

-- the first of these readings, in their order, that breaks the rule with an earlier pair of its boot
abbrev pub first_broken : {a : Upper} → FabricConfig → World a → ℕ → List (ℕ × ℕ) → Option DriftBroken
first_broken c w time [] = None
first_broken c w time (r ∷ rs) = broken_of c (time, r.1) (at r.0 w.nodes) (first_broken c w time rs)

unfoldable pub drift_broken : {a : Upper} → FabricConfig → World a → Event → Option DriftBroken
drift_broken c w (Tick advance readings) = first_broken c w (w.time + advance) readings
drift_broken c w _ = None
