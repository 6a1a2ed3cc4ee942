-- What an arbitrator does with a message, at its seat.
use Rattle.std.specs.Prelude.{◌≡◌, ℕ, ◌<◌, Option, Some, slice_get, slice_set}
use Rattle.std.specs.Option.{option_to_list}
use Rattle.arbiter_core.specs.Arbiters.{Arbiter, with_kept}
use Rattle.fabric_terms.specs.declared.config.FabricConfig.{FabricConfig}
use Rattle.fabric_terms.specs.declared.message.Body.{Body}
use Rattle.fabric_terms.specs.declared.message.Message.{Message}
use Rattle.ring_points.specs.declared.who.Who.{Who}
use Rattle.world_rules.specs.Arbiters.{ArbiterState, arbiter_step}
use Rattle.fabric_lemmas.specs.Maps.{at}
use Rattle.unit_rules.specs.Fabric.{fabric}
use Rattle.world_rules.specs.Uppers.{Did}
use Rattle.world_rules.specs.Worlds.{World as RuledWorld, arbiter_acted}
use Rattle.ring_world.specs.ConfiguredArbiters.{state_of}
use Rattle.ring_world.specs.Seen.{seen_of}
use Rattle.ring_world.specs.Steps.{LeavesSound}
use Rattle.ring_world.specs.declared.configured_arbiter.ConfiguredArbiter.{ConfiguredArbiter}
use Rattle.ring_world.specs.declared.world.World.{World}

-- what the rules say of the message
abbrev pub ruled_by : FabricConfig → Message → Arbiter → Did (ArbiterState fabric)
ruled_by c m a = arbiter_step fabric c a.number m (state_of a)

-- the seat is as the rules say: what the arbitrator records is kept, and this is its answer
pub record Hears (c : FabricConfig) (m : Message) (old new : ConfiguredArbiter) (reply : Option (Who × Body)) : Type 0 where
  pub runs : new.runs ≡ old.runs
  pub arbiter : new.arbiter ≡ with_kept (ruled_by c m old.arbiter).records old.arbiter
  pub sent : option_to_list reply ≡ (ruled_by c m old.arbiter).sent

-- the running arbitrator of this number, and that its answer leaves sound frames
pub record CanRule (c : FabricConfig) (w : RuledWorld fabric) (arbiter : ℕ) (m : Message) : Type 0 where
  pub state : ArbiterState fabric
  pub runs : at arbiter w.arbiters ≡ Some state
  pub sound : LeavesSound (arbiter_acted fabric w arbiter (arbiter_step fabric c arbiter m state))

-- at this place the arbitrator has heard the message and answers so, and nothing else has changed
pub record HeardAt (old new : World) (place : ℕ) (m : Message) (reply : Option (Who × Body)) : Type 0 where
  pub before : ConfiguredArbiter
  pub after : ConfiguredArbiter
  pub here : slice_get (seen_of old).seats place ≡ Some before
  pub hears : (c : FabricConfig) → Hears c m before after reply
  pub rest : seen_of new ≡ record (seen_of old) { seats = slice_set (seen_of old).seats place after }
  pub places : new.places ≡ old.places
  pub room : 0 < new.frames.room
