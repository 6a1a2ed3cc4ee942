use Rattle.std.proofs.Common.{arith}
use Rattle.client_sessions.specs.Answers.{words_reply}
use Rattle.client_sessions.proofs.Chains.{one_each_more}
use Rattle.client_sessions.proofs.telling.say_words_to_each.Goals as goal

pub loop-one-preserved : goal.loop-one-preserved
loop-one-preserved g c =
    one_each_more (words_reply c.args.words.now) c.args.ended.now c.loop-one.one-index _ _ _ _ (omega arith) c.loop-one.invariant c.say_words.ensures
