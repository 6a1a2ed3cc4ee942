use Rattle.std.proofs.Common.{◌≡◌, ◌-◌, ◌*◌, ℕ, List, ap, map, subst, ◌∙◌}
use Rattle.ring_rules.specs.Up.{long_ago}
use Rattle.unit_desk.specs.UnitEffects.{Does}
use Rattle.unit_manager.specs.Laws.{unloaded, unloaded_at}
use Rattle.node_core.specs.UnitParts.{Part, site_at}
use Rattle.node_core.proofs.UnitRows.{answer_row}
use Rattle.unit_rules.specs.Steps.{frame_row}
use Rattle.node_core.proofs.unit_part.UnitNode.answered.Goals as goal

pub returns-clause-does : goal.returns-clause-does
returns-clause-does c =
    let u : Part = record { domains = c.self.inside.domains.items; state = record { managed = c.self.inside.manager; states = c.self.inside.states } } in
    let n = c.args.ring.now in
    let m = c.args.message.now in
    let since : c.saturating_sub-since.result ≡ long_ago c.args.now n.settings.lease = c.saturating_sub-since.ensures ∙ ap (λ (l : ℕ). c.args.now - 2 * l) c.lease.ensures.value in
    let nodes : c.fill_unloaded.new.nodes ≡ unloaded (site_at n.settings u) c.args.now n.ring =
    c.fill_unloaded.ensures ∙ ap (λ (ds : List (ℕ × ℕ)). map (unloaded_at c.saturating_sub-since.result n.ring) ds) c.as_slice.ensures.value ∙ ap (λ (s : ℕ). map (unloaded_at s n.ring) u.domains) since in
    subst (λ (p : Part). Does (frame_row (site_at n.settings p) c.args.now n.ring m.from m.body p.state) (record { managed = c.answered.new.self; states = c.self.inside.states }) c.args.effects.now c.answered.new.effects) c.self.view_is
    (answer_row (site_at n.settings u) c.args.now n.ring m u.state c.fill_unloaded.new.nodes c.answered.new.self c.args.effects.now c.answered.new.effects c.requires.answer nodes c.answered.ensures.does)
