use Rattle.std.proofs.Common.{◌≡◌, ◌+◌, ℕ, suc, Some, ap, arith}
use Rattle.schedule_generate.specs.Course.{node_starts}
use Rattle.schedule_generate.specs.Moves.{event_for, events_for}
use Rattle.schedule_generate.specs.declared.moves.Move.TheVariants.{Start}
use Rattle.schedule_generate.proofs.Numbers.{pushed}
use Rattle.schedule_generate.proofs.opening.push_nodes.Goals as goal

pub loop-node-preserved : goal.loop-node-preserved
loop-node-preserved c =
    let made : c.loop-node.node + 1 ≡ 1 + c.loop-node.node = omega arith in
    let next : c.loop-node.node + 1 ≡ suc c.loop-node.node = omega arith in
    rw c.in_ok-push.ensures.items (pushed c.loop-node.moves.items (Start (c.loop-node.node + 1) (Some 0)) (events_for c.args.moves.now.items) node_starts 1 c.loop-node.node (c.loop-node.node + 1) (ap (λ (j : ℕ). event_for (Start j (Some 0))) made) next c.loop-node.invariant)
