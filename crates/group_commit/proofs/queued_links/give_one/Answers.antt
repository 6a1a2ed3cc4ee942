use Rattle.group_commit.proofs.Giving.{given_as, given_lost}
use Rattle.group_commit.specs.Queues.{waiting_as}
use Rattle.group_commit.proofs.queued_links.give_one.Goals as goal

pub returns-in-Ok-clause-given : goal.returns-in-Ok-clause-given
returns-in-Ok-clause-given g c =
    given_as c.args.below.now.actor c.args.frame.now c.as_str.result.now c.as_slice.result.now (g.N.Links.sent c.args.below.now.inner.now) (g.N.Links.sent c.send.new.self.inner.now) c.args.lost
    c.as_str.ensures c.as_slice.ensures c.in-Ok.ensures.ok

pub returns-in-Err-clause-given : goal.returns-in-Err-clause-given
returns-in-Err-clause-given g c =
    given_lost (waiting_as c.args.below.now.actor c.args.frame.now) (g.N.Links.sent c.args.below.now.inner.now) (g.N.Links.sent c.send.new.self.inner.now) c.args.lost c.risen.result
    c.in-Err.ensures.err c.risen.ensures.risen
