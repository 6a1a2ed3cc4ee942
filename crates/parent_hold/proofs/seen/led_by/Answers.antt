use Rattle.std.proofs.Common.{rules, ap, ◌∙◌}
use Rattle.std.specs.Prelude.{filter}
use Rattle.std.proofs.lemmas.Fn.{filter_same}
use Rattle.parent_hold.specs.Had.{leads_at}
use Rattle.parent_hold.proofs.seen.led_by.Goals as goal

pub returns : goal.returns
returns c =
    let leads = leads_at c.args.core.now.state.above.states in
    filter_same _ leads _ (λ x b g k. search rules) _ _ c.retain.ensures.filtered ∙ ap (filter leads) c.in_ok-partitions.ensures
