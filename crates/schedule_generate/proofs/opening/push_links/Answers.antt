use Rattle.std.proofs.Common.{◌≡◌, ◌+◌, ℕ, suc, ap, arith}
use Rattle.schedule_generate.specs.Course.{asks_first}
use Rattle.schedule_generate.specs.Moves.{event_for, events_for}
use Rattle.schedule_generate.specs.declared.moves.Move.TheVariants.{Link}
use Rattle.schedule_generate.proofs.Numbers.{pushed}
use Rattle.schedule_generate.proofs.opening.push_links.Goals as goal

pub loop-node-preserved : goal.loop-node-preserved
loop-node-preserved c =
    let made : c.loop-node.node + 2 ≡ 2 + c.loop-node.node = omega arith in
    let next : c.loop-node.node + 1 ≡ suc c.loop-node.node = omega arith in
    rw c.in_ok-push.ensures.items (pushed c.loop-node.moves.items (Link (c.loop-node.node + 2) 1) (events_for c.args.moves.now.items) asks_first 2 c.loop-node.node (c.loop-node.node + 1) (ap (λ (j : ℕ). event_for (Link j 1)) made) next c.loop-node.invariant)
