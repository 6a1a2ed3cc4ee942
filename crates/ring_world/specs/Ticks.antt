-- Readings of running nodes, by the clocks that the code has.
use Rattle.std.specs.Prelude.{◌≡◌, ℕ, Bool, true, false, ◌&&◌, ◌==◌, List, [], ◌∷◌, map}
use Rattle.fabric_terms.specs.declared.config.FabricConfig.{FabricConfig}
use Rattle.ring_points.specs.declared.who.Who.{Who}
use Rattle.world_rules.specs.Events.{ticked}
use Rattle.unit_rules.specs.Fabric.{fabric}
use Rattle.world_rules.specs.Worlds.{Running as RuledRunning}
use Rattle.ring_world.specs.Running.{AllRun}
use Rattle.ring_world.specs.declared.running.Running.{Running}

-- the readings are of exactly the nodes of these clocks, in their order
abbrev pub are_of_clocks : List (ℕ × ℕ) → List (Who × ℕ) → Bool
are_of_clocks [] [] = true
are_of_clocks [] (k ∷ ks) = false
are_of_clocks (r ∷ rs) [] = false
are_of_clocks (r ∷ rs) (k ∷ ks) = r.0 == k.0.actor && are_of_clocks rs ks

-- the running nodes and their clocks after a tick
abbrev pub after_tick : ℕ → List (ℕ × ℕ) → List (ℕ × RuledRunning fabric) → List (ℕ × RuledRunning fabric)
after_tick time readings es = map (ticked {a = fabric} time readings) es

pub record Shows (c : FabricConfig) (time : ℕ) (rs : List Running) (clocks : List (Who × ℕ)) (readings : List (ℕ × ℕ)) (es : List (ℕ × RuledRunning fabric)) : Type 0 where
  pub running : AllRun c time rs (after_tick time readings es)
  pub clocks_are : clocks ≡ map (λ n. (n.1.node.ring.me, n.1.reading)) (after_tick time readings es)
