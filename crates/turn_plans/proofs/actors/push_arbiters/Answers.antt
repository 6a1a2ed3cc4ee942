use Rattle.turn_plans.proofs.Crews.{next_arbiter, no_arbiter_yet}
use Rattle.turn_plans.proofs.actors.push_arbiters.Goals as goal

pub loop-number-init : goal.loop-number-init
loop-number-init c = no_arbiter_yet _ _

pub loop-number-preserved : goal.loop-number-preserved
loop-number-preserved c = next_arbiter _ _ _ _ _ c.loop-number.invariant c.in_ok-push_arbiter.ensures
