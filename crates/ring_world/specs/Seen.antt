-- What a world of the code has, whatever room it has for more.
use Rattle.std.specs.Prelude.{ℕ, List}
use Rattle.fabric_terms.specs.declared.config.FabricConfig.{FabricConfig}
use Rattle.fabric_terms.specs.declared.message.Message.{Message}
use Rattle.node_core.specs.declared.kept.NodeKept.{NodeKept}
use Rattle.ring_points.specs.declared.who.Who.{Who}
use Rattle.ring_world.specs.declared.running.Running.{Running}
use Rattle.ring_world.specs.declared.configured_arbiter.ConfiguredArbiter.{ConfiguredArbiter}
use Rattle.ring_world.specs.declared.world.World.{World}

pub record Seen : Type 0 where
  pub config : FabricConfig
  pub time : ℕ
  pub events : ℕ
  pub running : List Running
  pub clocks : List (Who × ℕ)
  pub kept : List NodeKept
  pub seats : List ConfiguredArbiter
  pub frames : List Message
  pub sent : ℕ

abbrev pub seen_of : World → Seen
seen_of a =
    record {
      config = a.config;
      time = a.time;
      events = a.events;
      running = a.running.items;
      clocks = a.clocks.items;
      kept = a.kept.items;
      seats = a.seats.items;
      frames = a.frames.frames;
      sent = a.sent;
    }
