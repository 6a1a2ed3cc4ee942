use Rattle.std.proofs.Common.{arith}
use Rattle.run_audit.specs.Victims.{IsVictim}
use Rattle.run_audit.proofs.Victims.{least_on, least_of_all}
use Rattle.run_audit.proofs.victim.first_victim.Goals as goal

pub loop-holder-preserved : goal.loop-holder-preserved
loop-holder-preserved c =
    least_on (IsVictim c.args.taken.now) c.args.all.now c.loop-holder.holder-index _ c.loop-holder.best _ c.lesser-best.result c.loop-holder-test.true
    c.loop-holder.invariant c.victim_of.ensures c.lesser-best.ensures

pub returns : goal.returns
returns c = least_of_all (IsVictim c.args.taken.now) c.args.all.now c.loop-holder.holder-index c.loop-holder.best (omega arith) c.loop-holder.invariant
