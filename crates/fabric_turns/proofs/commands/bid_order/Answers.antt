use Rattle.std.proofs.Common.{◌≡◌, ◌+◌, List, Some, ap, drop, refl, sym, subst, ◌∙◌, ◌∷◌}
use Rattle.std.specs.Prelude.{slice_get}
use Rattle.fabric_terms.specs.declared.command.Command.{Command}
use Rattle.fabric_turns.specs.Moves.{at_place}
use Rattle.turn_rules.specs.Order.{Busy}
use Rattle.turn_rules.specs.Plans.{commands_in}
use Rattle.turn_rules.specs.Whole.{setting}
use Rattle.turn_rules.specs.declared.order.Order.{Order}
use Rattle.fabric_turns.proofs.Places.{goes_as, leads_to}
use Rattle.fabric_turns.proofs.Windows.{command_here, drop_here, fits_here, other_place}
use Rattle.fabric_turns.proofs.commands.bid_order.Goals as goal

pub bid-requires-clause-command : goal.bid-requires-clause-command
bid-requires-clause-command g c =
    let o = c.command_at.ensures in
    let here : slice_get c.args.plan.now.orders c.args.index ≡ Some o.0 = subst (λ (os : List Order). slice_get os c.args.index ≡ Some o.0) c.orders-orders.ensures o.1.0 in
    fits_here c.args.plan.now.orders c.args.index o.0 c.command_at.result c.requires.ready.good.orders here o.1.1

pub returns-then-place_at-at-clause-done : goal.returns-then-place_at-at-clause-done
returns-then-place_at-at-clause-done g c = λ kept.
    let o = c.place_at.ensures in
    let k = c.command_at.ensures in
    let here : slice_get c.args.plan.now.orders c.args.index ≡ Some o.0 = subst (λ (os : List Order). slice_get os c.args.index ≡ Some o.0) c.orders-orders.ensures o.1.0 in
    let there : slice_get c.args.plan.now.orders c.args.index ≡ Some k.0 = subst (λ (os : List Order). slice_get os c.args.index ≡ Some k.0) c.orders-orders.ensures k.1.0 in
    let turn : o.0.turn ≡ c.args.at.turn.number = c.requires.turn o.0 here in
    let place : o.0.place ≡ c.args.at.place = sym o.1.1 ∙ c.if-place_at-at.true in
    let command : o.0.command ≡ c.command_at.result = cc in
    let rest = drop (c.args.index + 1) c.args.plan.now.orders in
    goes_as (setting c.args.plan.now kept) _ _ c.args.run.now c.bid.new.run _ (at_place c.args.at.turn.number c.args.at.place (Busy (commands_in c.args.at.turn.number c.args.at.place rest) 0)) _ _ c.bid.result
    (ap (λ (cs : List Command). at_place c.args.at.turn.number c.args.at.place (Busy cs 0))
    (ap (commands_in c.args.at.turn.number c.args.at.place) (drop_here c.args.plan.now.orders c.args.index o.0 here)
    ∙ command_here c.args.at.turn.number c.args.at.place o.0 rest turn place
    ∙ ap (λ (x : Command). x ∷ commands_in c.args.at.turn.number c.args.at.place rest) command)) refl
    (c.bid.ensures.done kept (commands_in c.args.at.turn.number c.args.at.place rest) 0)

pub returns-else-place_at-at-clause-done : goal.returns-else-place_at-at-clause-done
returns-else-place_at-at-clause-done g c = λ kept a h t.
    let o = c.place_at.ensures in
    let here : slice_get c.args.plan.now.orders c.args.index ≡ Some o.0 = subst (λ (os : List Order). slice_get os c.args.index ≡ Some o.0) c.orders-orders.ensures o.1.0 in
    let rest = drop (c.args.index + 1) c.args.plan.now.orders in
    leads_to (setting c.args.plan.now kept) _ _ c.args.run.now c.args.run.now _ _ _
    (ap (λ (cs : List Command). at_place c.args.at.turn.number c.args.at.place (Busy cs 0))
    (ap (commands_in c.args.at.turn.number c.args.at.place) (drop_here c.args.plan.now.orders c.args.index o.0 here)
    ∙ other_place c.args.at.turn.number c.args.at.place o.0 rest (λ same. c.if-place_at-at.false (o.1.1 ∙ same))))
    (λ a h t. (h, t)) a h t
