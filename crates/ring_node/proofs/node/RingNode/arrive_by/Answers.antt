use Rattle.std.proofs.Common.{◌∙◌, sym, ap}
use Rattle.link_core.specs.Ties.{Cause}
use Rattle.ring_node.proofs.node.RingNode.arrive_by.Goals as goal

pub returns-in-Some-clause-err : goal.returns-in-Some-clause-err
returns-in-Some-clause-err c = rw (sym (ap (λ (x : Cause). x.flight) c.cause.view_is) ∙ c.in-Some.is) c.arrive.ensures.err
