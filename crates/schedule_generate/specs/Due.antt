-- Which events may come next at a course, and that its clocks are true.
use Rattle.std.specs.Prelude.{◌≡◌, ◌≤◌, ℕ, List, [], ◌∷◌, Some}
use Rattle.drift_clock.specs.Within.{Pair}
use Rattle.unit_rules.specs.Fabric.{fabric}
use Rattle.fabric_lemmas.specs.Maps.{at}
use Rattle.fabric_terms.specs.declared.config.FabricConfig.{FabricConfig}
use Rattle.fabric_terms.specs.declared.event.Event.{Event}
use Rattle.fabric_terms.specs.declared.event.Event.TheVariants.{Start}
use Rattle.frame_format.specs.Kinds.{is_frame}
use Rattle.unit_rules.specs.Ruled.{ruled}
use Rattle.world_rules.specs.Runs.{History}
use Rattle.world_rules.specs.Schedules.{MayCome}
use Rattle.world_rules.specs.Worlds.{Running, World}
use Rattle.schedule_generate.specs.Course.{next_line}

-- these events may come next, one after the other, as far as no limit is passed
abbrev pub AreDue : FabricConfig → History → List Event → Type 0
AreDue c h [] = Unit {0}
AreDue c h (e ∷ es) = MayCome is_frame c (ruled c h) e × AreDue c ((next_line h, e) ∷ h) es

-- a clock that starts shows this time
abbrev pub ShowsTime : ℕ → Event → Type 0
ShowsTime time (Start actor (Some reading)) = reading ≡ time
ShowsTime time _ = Unit {0}

-- each of these readings was the true time, and was taken by now
abbrev pub AreTrue : ℕ → List Pair → Type 0
AreTrue now [] = Unit {0}
AreTrue now (p ∷ ps) = (p.1 ≡ p.0) × (p.0 ≤ now) × AreTrue now ps

-- the clocks of all who run have shown the true time since they started
abbrev pub ClocksAreTrue : World fabric → Type 0
ClocksAreTrue w = (node : ℕ) (s : Running fabric) → at node w.nodes ≡ Some s → AreTrue w.time s.pairs
