use Rattle.std.proofs.Common.{◌≡◌, ◌∙◌, IsTrue, ap, subst}
use Rattle.ring_node.specs.Nodes.{Node, step}
use Rattle.ring_node.specs.Steps.{taken}
use Rattle.ring_rules.specs.Deeds.{has_numbers}
use Rattle.unit_desk.specs.UnitEffects.{Does as DoesAbove}
use Rattle.node_core.specs.UnitParts.{Part, site_at}
use Rattle.node_core.specs.NodeEffects.{left_in}
use Rattle.node_core.specs.Rows.{comes_first, row_if}
use Rattle.node_core.proofs.Leaving.{does_left}
use Rattle.node_core.proofs.Steps.{first_above, name_stays}
use Rattle.node_core.proofs.whole_step.take_input.Goals as goal

pub returns-clause-does : goal.returns-clause-does
returns-clause-does c = λ config by.
    let n : Node = c.args.parts.now.ring.value in
    let p : Part = c.args.parts.now.units in
    let i = c.args.input.now in
    let made : step c.advance.new.self c.advance.new.out c.advance.new.told ≡ taken c.args.now i n = c.advance.ensures.step ∙ ap (λ (m : Node). taken c.args.now i m) c.deref_mut-ring.ensures.value in
    does_left config c.args.now i n p c.advance.new.self c.take_first.new.units c.advance.new.out c.advance.new.told (left_in c.leave.new.effects)
    (row_if (comes_first n.settings c.args.now n.ring i) (site_at n.settings p) c.args.now n.ring p.state i)
    c.args.effects.now c.take_first.new.effects c.args.parts.now.owned by made
    (first_above config c.args.now i n p c.advance.new.self c.advance.new.out c.advance.new.told by made c.requires.first (subst (λ (m : Node). IsTrue (has_numbers m.ring)) c.deref.ensures c.take_first.ensures.numbers))
    c.requires.ready.clear
    (subst (λ (m : Node). DoesAbove (row_if (comes_first m.settings c.args.now m.ring i) (site_at m.settings p) c.args.now m.ring p.state i) c.take_first.new.units.state c.args.effects.now.units c.take_first.new.effects) c.deref.ensures c.in_ok-take_first.ensures.does)
    c.requires.owned c.leave.ensures.records c.leave.ensures.frames c.leave.ensures.reports

pub returns-clause-me : goal.returns-clause-me
returns-clause-me c =
    name_stays c.args.now c.args.input.now c.args.parts.now.ring.value c.advance.new.self c.advance.new.out c.advance.new.told
    (c.advance.ensures.step ∙ ap (λ (n : Node). taken c.args.now c.args.input.now n) c.deref_mut-ring.ensures.value)
