use Rattle.std.proofs.Common.{◌∙◌, ap, option_map, refl}
use Rattle.ring_node.specs.Nodes.{Node}
use Rattle.ring_node.proofs.Promised.{too_many}
use Rattle.ring_rules.specs.Slots.{slot_at}
use Rattle.ring_node.proofs.node.RingNode.give_in.Goals as goal

pub returns-in-Err-clause-ok : goal.returns-in-Err-clause-ok
returns-in-Err-clause-ok c = λ sent.
    too_many c.args.all c.args.i c.args.self.now c.in-Some.peer (slot_at c.args.i c.args.self.now.ring.slots) c.frozen_for.result sent c.args.told.now c.refuse-in-Err.new.told refl c.in-Some.ensures.peer c.if-has_flight.ensures (c.frozen_for.ensures ∙ ap (λ (n : Node). option_map (λ z. z.slot) n.ring.token.freeze) c.self.view_is) c.if-is_some.ensures c.in-Err.ensures.whole c.in-Err.ensures.too_many c.refuse-in-Err.ensures
