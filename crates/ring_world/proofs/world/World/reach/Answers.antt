use Rattle.std.proofs.Common.{◌≤◌, subst, arith}
use Rattle.ring_points.specs.Whos.{arbiter_actor}
use Rattle.unit_rules.specs.Fabric.{fabric}
use Rattle.world_rules.specs.Worlds.{Stepped}
use Rattle.ring_world.specs.Steps.{LeavesSound}
use Rattle.ring_world.proofs.Arrivals.{to_node}
use Rattle.ring_world.proofs.world.World.reach.Goals as goal

pub reach_node-requires-clause-can : goal.reach_node-requires-clause-can
reach_node-requires-clause-can c =
    let can = c.requires.can in
    let le : c.args.message.now.to.actor ≤ arbiter_actor 0 = omega arith in
    (can.0, can.1, subst (λ (x : Stepped fabric). LeavesSound x) (to_node c.args.self.now can.0 c.args.message.now le) can.2)
