use Rattle.std.proofs.Common.{Err, ap, ◌∙◌}
use Rattle.frame_hold.proofs.Passing.{given_as, given_lost}
use Rattle.frame_hold.proofs.holding_links.give_one.Goals as goal

pub returns-in-Ok-clause-given : goal.returns-in-Ok-clause-given
returns-in-Ok-clause-given g c =
    given_as c.args.datagram.now c.as_str.result.now c.as_slice-bytes.result.now (g.N.Links.sent c.args.links.now) (g.N.Links.sent c.pass_or_queue.new.self) (g.N.Links.faults c.args.links.now) (g.N.Links.faults c.pass_or_queue.new.self)
    c.as_str.ensures c.as_slice-bytes.ensures c.in-Ok.ensures.sent c.pass_or_queue.ensures.cause.later

pub returns-in-Err-Failed-clause-given : goal.returns-in-Err-Failed-clause-given
returns-in-Err-Failed-clause-given g c =
    given_lost c.args.datagram.now (g.N.Links.sent c.args.links.now) (g.N.Links.sent c.pass_or_queue.new.self) (g.N.Links.faults c.args.links.now) (g.N.Links.faults c.pass_or_queue.new.self)
    c.in-Err-Failed.ensures.same (c.pass_or_queue.ensures.cause.failed (c.in-Err-Failed.is ∙ ap (λ e. Err e) c.in-Err-Failed.field-0-is))
