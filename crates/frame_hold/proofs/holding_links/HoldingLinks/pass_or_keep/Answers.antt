use Rattle.std.proofs.Common.{sym, ◌∙◌}
use Rattle.frame_hold.proofs.Passing.{never_passed}
use Rattle.frame_hold.proofs.holding_links.HoldingLinks.pass_or_keep.Goals as goal

pub returns-then-not-frame_waits-clause-never : goal.returns-then-not-frame_waits-clause-never
returns-then-not-frame_waits-clause-never g c =
    never_passed c.args.self.now.holding (record { from = c.args.from; to = c.args.to.now; bytes = c.args.bytes.now }) (g.N.Links.sent c.args.self.now.inner.now) (g.N.Links.sent c.pass_or_queue.new.self) c.pass_or_queue.result
    (sym c.frame_waits.ensures ∙ c.if-not-frame_waits.true) c.pass_or_queue.ensures.sent c.pass_or_queue.ensures.same
