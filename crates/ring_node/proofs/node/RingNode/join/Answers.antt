use Rattle.std.proofs.Common.{Some, sym, ap}
use Rattle.ring_node.specs.Nodes.{Node}
use Rattle.ring_node.proofs.Refused.{joined}
use Rattle.ring_node.proofs.node.RingNode.join.Goals as goal

pub returns-clause-row : goal.returns-clause-row
returns-clause-row c =
    joined c.args.member c.args.self.now _ c.args.out.now c.seek_place.new.out c.args.told.now (sym c.if-is_routing.ensures) (ap (λ (n : Node). record n { ring = record n.ring { target = Some c.args.member } }) c.self.view_is) c.seek_place.ensures.row
