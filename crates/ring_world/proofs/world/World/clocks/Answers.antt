use Rattle.std.proofs.Common.{sym, ◌∙◌}
use Rattle.unit_rules.specs.Fabric.{fabric}
use Rattle.run_facts.proofs.Clocks.{clocks_are}
use Rattle.ring_world.proofs.world.World.clocks.Goals as goal

pub returns : goal.returns
returns c k h s = c.as_slice.ensures.value ∙ (s.keeps.state.nodes.clocks ∙ sym (clocks_are fabric k h))
