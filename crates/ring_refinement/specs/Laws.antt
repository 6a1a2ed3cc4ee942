-- Each step of a ring is deeds of the machine.
use Rattle.std.specs.Prelude.{◌≡◌, ℕ, true, false}
use Rattle.ring_points.specs.declared.who.Who.{Who}
use Rattle.ring_points.specs.Whos.{same_who}
use Rattle.fabric_terms.specs.declared.config.FabricConfig.{FabricConfig}
use Rattle.join_phases.specs.Phases.{is_left}
use Rattle.ring_rules.specs.declared.input.Input.{Input}
use Rattle.ring_rules.specs.declared.input.Input.TheVariants as input
use Rattle.ring_rules.specs.Rings.{Ring, settings_of}
use Rattle.ring_rules.specs.Starts.{node_started, start_first}
use Rattle.ring_rules.specs.Steps.{ring_step}
use Rattle.ring_machine.specs.World.{World, Running}
use Rattle.ring_machine.specs.Events.{IsSound, next_instance, started}
use Rattle.ring_machine.specs.Invariant.{Invariant}
use Rattle.ring_refinement.specs.Images.{machine_of, Posted}
use Rattle.ring_refinement.specs.Shown.{Shows}
use Rattle.ring_refinement.specs.Refined.{Refined}

-- the frame that comes, if one does, was sent
abbrev pub Comes : FabricConfig → World → Input → Type 0
Comes c m (input.Frame f) = Posted c.lease m.sent f.from f.to f.body
Comes c m _ = Unit {0}

-- a step of the ring of x, at the reading of x
abbrev pub StepIsDeeds : Type 0
StepIsDeeds =
    (c : FabricConfig) (node now : ℕ) (m : World) (x : Who) (r : Ring) (i : Input) → IsSound (machine_of c) → Invariant (machine_of c) m →
    Shows c m x r → (is_left r.phase ≡ false → (m.instance x).reading ≡ now) → Comes c m i → Refined c m x (ring_step (settings_of c node) now i r)

-- the ring of a node that starts is that of its next instance, which has the whole ring if it is the one that begins with it
abbrev pub StartIsShown : Type 0
StartIsShown =
    (c : FabricConfig) (node reading : ℕ) (m : World) →
    Shows c (started (machine_of c) m node reading) (next_instance m node)
    (start_first c (next_instance m node) (same_who (next_instance m node) m.whole)).ring

-- where all numbers of instances are spent, the ring has left from the start
abbrev pub SpentIsLeft : Type 0
SpentIsLeft =
    (c : FabricConfig) (m : World) (x : Who) → ((m.instance x).phase ≡ Running → ⊥) → Shows c m x (node_started c x true).ring
