use Rattle.std.proofs.Common.{subst, sym, ◌∙◌}
use Rattle.unit_desk.specs.UnitEffects.{Does}
use Rattle.unit_rules.specs.Manager.{Managed}
use Rattle.unit_manager.specs.Managers.{loaded, managed, manager_received}
use Rattle.unit_manager.proofs.Taking.{received_does}
use Rattle.unit_manager.proofs.manager.Manager.answered.Goals as goal

pub returns-in-Some-clause-does : goal.returns-in-Some-clause-does
returns-in-Some-clause-does c =
    let s : Managed = managed c.self.inside.units c.self.inside.reconfigs.items in
    let s2 : Managed = managed c.answered_by.new.units c.answered_by.new.reconfigs.items in
    let m = c.args.answer.now in
    subst (λ (x : Managed). Does (manager_received (loaded x.units c.args.nodes.now) m x) s2 c.args.effects.now c.answered_by.new.effects) c.self.view_is
    (received_does (loaded s.units c.args.nodes.now) m s s2 (c.in-Some.partition, c.in-Some.field-0-1) c.args.effects.now c.answered_by.new.effects (sym c.answered_unit.ensures ∙ c.in-Some.is) c.answered_by.ensures.does)
