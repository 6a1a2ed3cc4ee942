use Rattle.std.proofs.Common.{◌∙◌, sym, ap}
use Rattle.ring_node.specs.Nodes.{Node}
use Rattle.ring_node.proofs.Around.{sought}
use Rattle.ring_node.proofs.node.RingNode.search.Goals as goal

pub returns-in-Some-clause-ok : goal.returns-in-Some-clause-ok
returns-in-Some-clause-ok c = λ told.
    c.seek_place.ensures.row told ∙ sym (sought c.args.now c.in-Some.member c.args.self.now c.args.out.now told (sym c.if-is_routing.ensures) (sym (ap (λ (n : Node). n.ring.target) c.self.view_is) ∙ c.in-Some.is))
