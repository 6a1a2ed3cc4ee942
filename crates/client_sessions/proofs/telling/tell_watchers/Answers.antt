use Rattle.std.proofs.Common.{arith, false}
use Rattle.client_sessions.specs.Sessions.{watch_reply}
use Rattle.client_sessions.proofs.Chains.{each_more}
use Rattle.client_sessions.proofs.telling.tell_watchers.Goals as goal

pub loop-watcher-preserved : goal.loop-watcher-preserved
loop-watcher-preserved g c = λ whole is.
    each_more (watch_reply c.args.logged whole) c.args.watchers.now c.loop-watcher.watcher-index (record { client = 0; all = false }) _ _ _ (omega arith) (c.loop-watcher.invariant whole is) (c.tell_watcher.ensures whole is)
