use Rattle.std.proofs.Common.{ap, length, sym, ◌∙◌}
use Rattle.turn_rules.proofs.Stored.{count_is}
use Rattle.turn_rules.proofs.orders.Orders.len.Goals as goal

pub returns : goal.returns
returns c =
    ap length c.as_slice.ensures.value ∙ (sym (count_is 0 c.self.inside.heads.items c.self.inside.words.items c.self.invariant) ∙ ap length c.self.view_is)
