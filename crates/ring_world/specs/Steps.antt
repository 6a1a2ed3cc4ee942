-- What a node's step needs.
use Rattle.std.specs.Prelude.{◌≡◌, ℕ, Some, All, IsTrue, slice_get}
use Rattle.fabric_terms.specs.declared.config.FabricConfig.{FabricConfig}
use Rattle.fabric_terms.specs.declared.message.Message.{Message}
use Rattle.ring_rules.specs.declared.input.Input.{Input}
use Rattle.fabric_terms.specs.Messages.{is_sound}
use Rattle.world_rules.specs.Events.{node_acts}
use Rattle.unit_rules.specs.Fabric.{fabric}
use Rattle.world_rules.specs.Worlds.{World as RuledWorld, Running as RuledRunning, Stepped}

abbrev pub IsSoundFrame : Message → Type 0
IsSoundFrame m = IsTrue (is_sound m)

-- after the step every frame is in the ranges of frames
abbrev pub LeavesSound : Stepped fabric → Type 0
LeavesSound st = All IsSoundFrame st.world.frames

-- the running node at this place, and that its step with the input leaves sound frames
pub record CanStep (c : FabricConfig) (w : RuledWorld fabric) (place : ℕ) (i : Input) : Type 0 where
  pub node : ℕ
  pub state : RuledRunning fabric
  pub here : slice_get w.nodes place ≡ Some (node, state)
  pub sound : LeavesSound (node_acts fabric c w node i state)
