use Rattle.std.proofs.Common.{◌≡◌, List, Some, ap, subst, ◌∙◌}
use Rattle.std.specs.Prelude.{slice_get}
use Rattle.line_format.specs.Commands.{command_of}
use Rattle.turn_rules.specs.Stored.{order_with}
use Rattle.turn_rules.specs.declared.order.Order.{Order}
use Rattle.turn_rules.proofs.Stored.{lies_at, low_in}
use Rattle.turn_rules.proofs.orders.Orders.command_at.Goals as goal

pub words_at-words-requires-clause-known : goal.words_at-words-requires-clause-known
words_at-words-requires-clause-known c =
    let low = low_in c.self.inside.heads.items c.self.inside.words.items c.args.self.now c.args.index c.self.invariant c.self.view_is c.requires in
    rw c.as_slice-2.ensures.value low

pub words_at-words-requires-clause-in_order : goal.words_at-words-requires-clause-in_order
words_at-words-requires-clause-in_order c =
    let low = low_in c.self.inside.heads.items c.self.inside.words.items c.args.self.now c.args.index c.self.invariant c.self.view_is c.requires in
    let t = lies_at 0 c.self.inside.heads.items c.self.inside.words.items c.args.index c.self.invariant low in
    rw c.as_slice-2.ensures.value t.in_order

pub words_at-words-requires-clause-within : goal.words_at-words-requires-clause-within
words_at-words-requires-clause-within c =
    let low = low_in c.self.inside.heads.items c.self.inside.words.items c.args.self.now c.args.index c.self.invariant c.self.view_is c.requires in
    let t = lies_at 0 c.self.inside.heads.items c.self.inside.words.items c.args.index c.self.invariant low in
    rw (c.as_slice-2.ensures.value, c.as_slice.ensures.value) t.within

pub unreachable-requires : goal.unreachable-requires
unreachable-requires c =
    let low = low_in c.self.inside.heads.items c.self.inside.words.items c.args.self.now c.args.index c.self.invariant c.self.view_is c.requires in
    let t = lies_at 0 c.self.inside.heads.items c.self.inside.words.items c.args.index c.self.invariant low in
    let read : command_of c.words_at-words.result.now ≡ Some t.command = ap command_of (rw (c.as_slice-2.ensures.value, c.as_slice.ensures.value) at c.words_at-words.ensures) ∙ t.read in
    let none = c.in-Err.ensures.err in
    cc

pub returns : goal.returns
returns c =
    let low = low_in c.self.inside.heads.items c.self.inside.words.items c.args.self.now c.args.index c.self.invariant c.self.view_is c.requires in
    let t = lies_at 0 c.self.inside.heads.items c.self.inside.words.items c.args.index c.self.invariant low in
    let read : command_of c.words_at-words.result.now ≡ Some t.command = ap command_of (rw (c.as_slice-2.ensures.value, c.as_slice.ensures.value) at c.words_at-words.ensures) ∙ t.read in
    let same : c.in-Ok.command ≡ t.command = let ok = c.in-Ok.ensures.ok in cc in
    (order_with t.head t.command, (subst (λ (os : List Order). slice_get os c.args.index ≡ Some (order_with t.head t.command)) c.self.view_is t.is, same))
