use Rattle.std.proofs.Common.{◌≡◌, ◌+◌, ℕ, suc, None, ap, arith}
use Rattle.schedule_generate.specs.Course.{arbiter_starts}
use Rattle.schedule_generate.specs.Moves.{event_for, events_for}
use Rattle.schedule_generate.specs.declared.moves.Move.TheVariants.{Start}
use Rattle.schedule_generate.proofs.Numbers.{pushed}
use Rattle.schedule_generate.proofs.opening.push_arbiters.Goals as goal

pub loop-arbiter-preserved : goal.loop-arbiter-preserved
loop-arbiter-preserved c =
    let made : 32768 + c.loop-arbiter.arbiter + 1 ≡ 32768 + (1 + c.loop-arbiter.arbiter) = omega arith in
    let next : c.loop-arbiter.arbiter + 1 ≡ suc c.loop-arbiter.arbiter = omega arith in
    rw c.in_ok-push.ensures.items (pushed c.loop-arbiter.moves.items (Start (32768 + c.loop-arbiter.arbiter + 1) None) (events_for c.args.moves.now.items) arbiter_starts 1 c.loop-arbiter.arbiter (c.loop-arbiter.arbiter + 1) (ap (λ (j : ℕ). event_for (Start j None)) made) next c.loop-arbiter.invariant)
