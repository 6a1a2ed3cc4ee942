use Rattle.std.proofs.Common.{◌≡◌, ◌∙◌, ap, sym, subst}
use Rattle.unit_rules.specs.Fabric.{fabric}
use Rattle.fabric_terms.specs.declared.message.Message.{Message}
use Rattle.ring_node.specs.Nodes.{Node, step}
use Rattle.ring_node.specs.Steps.{taken}
use Rattle.ring_rules.specs.declared.input.Input.{Input}
use Rattle.ring_rules.specs.declared.input.Input.TheVariants as input
use Rattle.unit_desk.specs.UnitEffects.{Does as DoesAbove}
use Rattle.node_core.specs.UnitParts.{Part, site_at}
use Rattle.ring_rules.specs.Frames.{passes}
use Rattle.world_rules.specs.Nodes.{node_step}
use Rattle.node_core.specs.Nodes.{Does, core_of}
use Rattle.node_core.specs.NodeEffects.{left_in}
use Rattle.node_core.specs.Rows.{comes_later, row_if}
use Rattle.node_core.proofs.Leaving.{does_left}
use Rattle.node_core.proofs.Steps.{answer_above, name_stays}
use Rattle.node_core.proofs.whole_step.take_answer.Goals as goal

pub returns-clause-does : goal.returns-clause-does
returns-clause-does c = λ config by.
    let n : Node = c.args.parts.now.ring.value in
    let p : Part = c.args.parts.now.units in
    let m : Message = c.args.message.now in
    let new : Node = c.advance.new.self in
    let made : step new c.advance.new.out c.advance.new.told ≡ taken c.args.now (input.Frame m) n = c.advance.ensures.step ∙ ap (λ (o : Node). taken c.args.now c.args.input.now o) c.deref_mut-ring.ensures.value ∙ ap (λ (i : Input). taken c.args.now i n) c.requires.input in
    subst (λ (i : Input). Does (node_step fabric config c.args.now i (core_of n p).state) (core_of new c.answer_later.new.units) (left_in c.leave.new.effects)) (sym c.requires.input)
    (does_left config c.args.now (input.Frame m) n p new c.answer_later.new.units c.advance.new.out c.advance.new.told (left_in c.leave.new.effects)
    (row_if (comes_later (passes n.settings n.ring m) new.ring) (site_at new.settings p) c.args.now new.ring p.state (input.Frame m))
    c.args.effects.now c.answer_later.new.effects c.args.parts.now.owned by made
    (answer_above config c.args.now m n p new c.advance.new.out c.advance.new.told by made)
    c.requires.ready.clear
    (subst (λ b. DoesAbove (row_if (comes_later b new.ring) (site_at new.settings p) c.args.now new.ring p.state (input.Frame m)) c.answer_later.new.units.state c.args.effects.now.units c.answer_later.new.effects) (c.passes-comes.ensures ∙ ap (λ (o : Node). passes o.settings o.ring m) c.deref_mut-ring.ensures.value) c.answer_later.ensures.does)
    c.requires.owned c.leave.ensures.records c.leave.ensures.frames c.leave.ensures.reports)

pub returns-clause-me : goal.returns-clause-me
returns-clause-me c =
    name_stays c.args.now c.args.input.now c.args.parts.now.ring.value c.advance.new.self c.advance.new.out c.advance.new.told
    (c.advance.ensures.step ∙ ap (λ (n : Node). taken c.args.now c.args.input.now n) c.deref_mut-ring.ensures.value)
