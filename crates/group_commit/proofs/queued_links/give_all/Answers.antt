use Rattle.std.proofs.Common.{◌∷◌, [], ℕ, subst, ◌∙◌}
use Rattle.group_commit.proofs.Everywhere.{everywhere}
use Rattle.group_commit.proofs.Giving.{given_next}
use Rattle.group_commit.specs.Given.{Given}
use Rattle.group_commit.specs.Queues.{waiting_as}
use Rattle.group_commit.proofs.queued_links.give_all.Goals as goal

pub loop-frame-preserved : goal.loop-frame-preserved
loop-frame-preserved g c =
    let l = c.loop-frame in
    let sent = g.N.Links.sent in
    let start = c.args.below.now in
    let new = c.give_one-count.new.below in
    let step = subst (λ (a : ℕ). Given (waiting_as a c.frame-item.result ∷ []) (sent l.below.inner.now) (sent new.inner.now) l.count c.give_one-count.result) l.invariant.3 c.give_one-count.ensures.given in (
      given_next start.actor c.args.queue.now l.frame-index c.frame-item.result (sent start.inner.now) (sent l.below.inner.now) (sent new.inner.now) c.args.lost l.count c.give_one-count.result
          c.loop-frame-test.true c.frame-item.is c.give_one-count.ensures.later l.invariant.0 step,
      c.give_one-count.ensures.opened ∙ l.invariant.1,
      everywhere (g.N.Links.arrivals new.inner.now) (g.N.Links.arrivals l.below.inner.now) c.give_one-count.ensures.arrivals ∙ l.invariant.2,
      c.give_one-count.ensures.actor ∙ l.invariant.3,
    )
