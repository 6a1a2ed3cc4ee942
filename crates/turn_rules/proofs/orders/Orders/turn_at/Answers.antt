use Rattle.std.proofs.Common.{◌≡◌, List, Some, arith, subst}
use Rattle.std.specs.Prelude.{slice_get}
use Rattle.turn_rules.specs.declared.order.Order.{Order}
use Rattle.turn_rules.proofs.Stored.{low_in, order_here}
use Rattle.turn_rules.proofs.orders.Orders.turn_at.Goals as goal

pub index-requires : goal.index-requires
index-requires c =
    let low = low_in c.self.inside.heads.items c.self.inside.words.items c.args.self.now c.args.index c.self.invariant c.self.view_is c.requires in
    omega (arith, low)

pub returns : goal.returns
returns c =
    let low = low_in c.self.inside.heads.items c.self.inside.words.items c.args.self.now c.args.index c.self.invariant c.self.view_is c.requires in
    let t = order_here 0 c.self.inside.heads.items c.self.inside.words.items c.args.index c.index.result.now c.self.invariant low c.index.ensures in
    (t.0, (subst (λ (os : List Order). slice_get os c.args.index ≡ Some t.0) c.self.view_is t.1, t.2))
