use Rattle.std.proofs.Common.{◌∙◌, ◌++◌, ◌∷◌, [], List, option_map, refl, sym, ap}
use Rattle.fabric_terms.specs.declared.report.Report.TheVariants.{Gave}
use Rattle.ring_node.specs.Nodes.{Node, by, step}
use Rattle.ring_node.proofs.Given.{flight_given, not_ready}
use Rattle.ring_points.specs.declared.interval.Interval.{Interval}
use Rattle.ring_rules.specs.Firing.{all_acked, give_frozen}
use Rattle.ring_rules.specs.Slots.{slot_at}
use Rattle.ring_node.proofs.node.RingNode.give_frozen.Goals as goal

pub returns-then-not-all_acked-clause-ok : goal.returns-then-not-all_acked-clause-ok
returns-then-not-all_acked-clause-ok c =
    let version = c.in-Some-Some.version in
    not_ready version c.args.self.now c.args.out.now c.args.told.now
    (c.in-Some-Some.ensures' ∙ ap (λ (n : Node). option_map (λ z. z.version) n.ring.token.freeze) c.self.view_is)
    (ap (λ (n : Node). all_acked version n.ring.slots) (sym c.self.view_is) ∙ ap (all_acked version) (sym c.slots.ensures) ∙ sym c.if-not-all_acked.ensures)

pub returns-in-Ok-clause-ok : goal.returns-in-Ok-clause-ok
returns-in-Ok-clause-ok c =
    let i = c.self.inside in
    let place = c.in-Some-Some.i in
    let version = c.in-Some-Some.version in
    flight_given i.links c.put_flight.new.self i.token c.give.new.self i.routes i.phase i.target i.near place version c.in-Some.peer i.token.freeze (slot_at place i.links.slots) c.in-Ok.flight c.args.out.now c.put_flight.new.out c.args.told.now c.push.new.self refl refl
    c.in-Some-Some.ensures c.in-Some-Some.ensures' (ap (all_acked version) (sym c.slots.ensures) ∙ sym c.if-not-all_acked.ensures)
    (c.in-Some.ensures.peer ∙ ap (λ (n : Node). option_map (λ l. l.peer) (slot_at place n.ring.slots)) (sym c.self.view_is))
    c.in-Ok.ensures.outcome c.in-Ok.ensures.flight
    (c.push.ensures ∙ ap (λ (part : List Interval). c.args.told.now ++ Gave c.in-Some.peer c.in-Ok.flight.number part ∷ []) c.copy.ensures)
    c.put_flight.ensures
    ∙ ap (λ (n : Node). by (λ s w. give_frozen w.ring.token.freeze w) (step n c.args.out.now c.args.told.now)) c.self.view_is
