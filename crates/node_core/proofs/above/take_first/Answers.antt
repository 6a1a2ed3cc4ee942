use Rattle.std.proofs.Common.{◌≡◌, sym, ◌∙◌}
use Rattle.unit_rules.specs.Deeds.{still}
use Rattle.world_rules.specs.Nodes.{comes_above}
use Rattle.node_core.specs.Rows.{acts_at, comes_first, row_if}
use Rattle.node_core.specs.UnitParts.{site_at}
use Rattle.node_core.proofs.Aside.{leaves_none, not_acting, not_let, nothing_above}
use Rattle.node_core.proofs.above.take_first.Goals as goal
use Rattle.node_core.proofs.above.take_first.Goals.{else-acts-via-then-acts+then-is_above+else-comes_above, else-acts-via-then-acts+else-is_above, else-acts-via-else-acts}

pub returns-else-acts-clause-does : goal.returns-else-acts-clause-does
returns-else-acts-clause-does c =
    let n = c.args.ring.now in
    let i = c.args.input.now in
    let s = c.args.units.now.state in
    let site = site_at n.settings c.args.units.now in
    let acts = acts_at n.settings c.args.now n.ring in
    let lets = comes_above n.settings n.ring i in
    let is : row_if (comes_first n.settings c.args.now n.ring i) site c.args.now n.ring s i ≡ still s =
    elim c.else-acts.branch [
      | else-acts-via-then-acts+then-is_above+else-comes_above w ↦ not_let site c.args.now n.ring s i acts lets (sym w.comes_above.ensures ∙ w.if-comes_above.false)
      | else-acts-via-then-acts+else-is_above w ↦ nothing_above site c.args.now n.ring s i (comes_first n.settings c.args.now n.ring i) c.requires.first (sym w.is_above.ensures ∙ w.if-is_above.false)
      | else-acts-via-else-acts w ↦ not_acting site c.args.now n.ring s i acts lets (sym c.acts.ensures.value ∙ w.if-acts.false)
    ] in
    leaves_none site c.args.now n.ring s i (comes_first n.settings c.args.now n.ring i) c.args.effects.now is
