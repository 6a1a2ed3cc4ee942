use Rattle.std.proofs.Common.{◌≡◌, ◌∙◌, ◌++◌, ap, not, subst, sym}
use Rattle.fabric_terms.specs.Sent.{from_all}
use Rattle.join_phases.specs.Phases.{is_left}
use Rattle.ring_node.specs.Nodes.{Node, step}
use Rattle.ring_node.specs.Steps.{taken}
use Rattle.ring_points.specs.declared.who.Who.{Who}
use Rattle.ring_rules.specs.declared.input.Input.TheVariants as input
use Rattle.unit_rules.specs.Fabric.{fabric}
use Rattle.world_rules.specs.Nodes.{node_step}
use Rattle.node_core.specs.Nodes.{Does, core_of}
use Rattle.node_core.specs.UnitParts.{Part, site_at}
use Rattle.node_core.specs.NodeEffects.{left_in}
use Rattle.node_core.specs.Rows.{row_if}
use Rattle.node_core.proofs.Leaving.{does_fired, none_more}
use Rattle.node_core.proofs.Sending.{firing_sends}
use Rattle.node_core.proofs.Steps.{fire_above, fire_keeps, name_stays}
use Rattle.node_core.proofs.whole_step.take_firing.Goals as goal

pub returns-clause-does : goal.returns-clause-does
returns-clause-does c = λ config by.
    let n : Node = c.args.parts.now.ring.value in
    let p : Part = c.args.parts.now.units in
    let new : Node = c.advance.new.self in
    let made : step new c.advance.new.out c.advance.new.told ≡ taken c.args.now input.Fire n = c.advance.ensures.step ∙ ap (λ (m : Node). taken c.args.now input.Fire m) c.deref_mut-ring.ensures.value in
    let d = site_at new.settings p in
    let b = not (is_left new.ring.phase) in
    let Fires : Part → Type 0 = λ u. Does (node_step fabric config c.args.now input.Fire (core_of n p).state) (core_of new u) (left_in c.leave.new.effects) in
    subst Fires (sym c.free_released.ensures)
    (does_fired config c.args.now input.Fire n p new c.advance.new.out c.advance.new.told (left_in c.leave.new.effects) (row_if b d 0 new.ring p.state input.Fire)
    c.args.effects.now c.args.parts.now.owned c.hand_over.new.frames.items c.fire_later.new.frames.items by made
    (fire_above config c.args.now n p new c.advance.new.out c.advance.new.told d by made)
    c.requires.ready.clear (fire_keeps d 0 new.ring p.state b) (firing_sends d 0 new.ring p.state b) c.requires.owned
    (c.hand_over.ensures.frames ∙ ap (λ (w : Who). c.args.effects.now.frames.items ++ from_all w c.advance.new.out) c.me.ensures)
    c.fire_later.ensures.sent c.leave.ensures.records
    (c.leave.ensures.frames ∙ none_more c.fire_later.new.frames.items new.ring.me c.hand_over.new.self c.fire_later.new.out c.hand_over.ensures.emptied c.fire_later.ensures.clear)
    c.leave.ensures.reports)

pub returns-clause-me : goal.returns-clause-me
returns-clause-me c =
    name_stays c.args.now input.Fire c.args.parts.now.ring.value c.advance.new.self c.advance.new.out c.advance.new.told
    (c.advance.ensures.step ∙ ap (λ (m : Node). taken c.args.now input.Fire m) c.deref_mut-ring.ensures.value)
