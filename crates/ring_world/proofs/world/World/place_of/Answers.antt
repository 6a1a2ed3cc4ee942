use Rattle.ring_world.proofs.Nodes.{place_found}
use Rattle.ring_world.proofs.world.World.place_of.Goals as goal

pub returns : goal.returns
returns c w s = place_found c.args.self.now w c.args.node c.position_of.result s (cc)
