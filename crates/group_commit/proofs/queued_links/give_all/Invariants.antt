use Rattle.std.proofs.Common.{◌≡◌, take}
use Rattle.group_commit.specs.Given.{Given}
use Rattle.group_commit.specs.Queues.{queue_of}
use Rattle.group_commit.proofs.queued_links.give_all.Given as goal

-- the frames so far were given
abbrev pub invariant-loop-frame : goal.invariant-loop-frame
invariant-loop-frame g l =
    Given (queue_of l.fn.below.actor (take l.frame-index l.queue)) (g.N.Links.sent l.fn.below.inner.now) (g.N.Links.sent l.below.inner.now) l.fn.lost l.count
    × (g.N.Links.opened l.below.inner.now ≡ g.N.Links.opened l.fn.below.inner.now)
    × (g.N.Links.arrivals l.below.inner.now ≡ g.N.Links.arrivals l.fn.below.inner.now)
    × (l.below.actor ≡ l.fn.below.actor)
