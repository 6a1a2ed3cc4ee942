use Rattle.std.proofs.Common.{sym, ◌∙◌, ap, ℕ}
use Rattle.unit_rules.specs.Phases.{furthest_or}
use Rattle.unit_rules.specs.Reconfigs.{PromisePhase}
use Rattle.reconfig_phases.proofs.Chosen.{healed}
use Rattle.reconfig_phases.proofs.promise.PromisePhase.primary.Goals as goal

pub returns-in-Heal : goal.returns-in-Heal
returns-in-Heal c =
    healed c.args.self.now c.in-Heal.field-0 c.entries.result.now c.as_slice.result.now c.furthest_among-furthest.result c.furthest_or.result
    (sym (ap (λ (p : PromisePhase). p.task.kind) c.self.view_is) ∙ c.in-Heal.is)
    (c.entries.ensures.entries ∙ ap (λ (p : PromisePhase). p.poll) c.self.view_is)
    (c.as_slice.ensures.nodes ∙ ap (λ (p : PromisePhase). p.members) c.self.view_is)
    c.furthest_among-furthest.ensures
    (c.furthest_or.ensures ∙ ap (λ (n : ℕ). furthest_or n c.furthest_among-furthest.result) (ap (λ (p : PromisePhase). p.first) c.self.view_is))
