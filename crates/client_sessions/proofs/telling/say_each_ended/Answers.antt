use Rattle.std.proofs.Common.{arith}
use Rattle.client_sessions.specs.Sessions.{ended_reply}
use Rattle.client_sessions.proofs.Chains.{one_each_more}
use Rattle.client_sessions.proofs.telling.say_each_ended.Goals as goal

pub loop-one-preserved : goal.loop-one-preserved
loop-one-preserved g c =
    one_each_more (ended_reply c.args.head.now c.args.told.now) c.args.ended.now c.loop-one.one-index _ _ _ _ (omega arith) c.loop-one.invariant c.say_ended.ensures
