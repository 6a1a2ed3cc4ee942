use Rattle.std.proofs.Common.{◌≡◌, ℕ, ◌+◌, ◌++◌, ◌∷◌, [], List, ap, length, length-append, refl, ◌∙◌}
use Rattle.turn_rules.specs.Stored.{AreOrders, order_with, orders_in}
use Rattle.turn_rules.specs.declared.order.Order.{Order}
use Rattle.turn_rules.specs.declared.orders.OrderHead.{OrderHead}
use Rattle.turn_rules.proofs.Stored.{IsPushed, pushed}
use Rattle.turn_rules.proofs.orders.Orders.push.Goals as goal

-- what is stored then
pub record IsStored (old_heads : List OrderHead) (old_words : List ℕ) (heads : List OrderHead) (words : List ℕ) (o : Order) : Type 0 where
  pub are : AreOrders 0 heads words
  pub orders : orders_in 0 heads words ≡ orders_in 0 old_heads old_words ++ o ∷ []

stored : (old_heads heads : List OrderHead) (old_words words text : List ℕ) (h : OrderHead) (o : Order) → IsPushed 0 old_heads old_words text h o.command → order_with h o.command ≡ o
    → heads ≡ old_heads ++ h ∷ [] → words ≡ old_words ++ text → IsStored old_heads old_words heads words o
stored old_heads heads old_words words text h o p same e f = record {
  are = rw (e, f) p.are;
  orders = rw (e, f) (p.orders ∙ ap (λ (x : Order). orders_in 0 old_heads old_words ++ x ∷ []) same);
}

added : (c : goal.After-push_reserved) → IsStored c.self.inside.heads.items c.self.inside.words.items c.push_reserved.new.self.items c.extend_from_slice.new.self.items c.args.order.now
added c =
    let h : OrderHead = record { turn = c.args.order.now.turn; place = c.args.order.now.place; end = length c.as_slice.result.now } in
    let words : c.extend_from_slice.new.self.items ≡ c.self.inside.words.items ++ c.args.words.now =
    c.in_ok-extend_from_slice.ensures.items ∙ ap (λ (ws : List ℕ). ws ++ c.args.words.now) c.in_ok-make_room-2.ensures.items in
    let heads : c.push_reserved.new.self.items ≡ c.self.inside.heads.items ++ h ∷ [] =
    c.push_reserved.ensures.items ∙ ap (λ (hs : List OrderHead). hs ++ h ∷ []) c.in_ok-make_room.ensures.items in
    let end : length c.as_slice.result.now ≡ length c.self.inside.words.items + length c.args.words.now =
    ap length c.as_slice.ensures.value ∙ ap length words ∙ length-append c.self.inside.words.items c.args.words.now in
    stored c.self.inside.heads.items c.push_reserved.new.self.items c.self.inside.words.items c.extend_from_slice.new.self.items c.args.words.now h c.args.order.now
    (pushed 0 c.self.inside.heads.items c.self.inside.words.items c.args.words.now h c.args.order.now.command c.self.invariant c.requires.words end) refl heads words

pub invariant_of-self-2 : goal.invariant_of-self-2
invariant_of-self-2 c = (added c).are

pub returns-clause-ok : goal.returns-clause-ok
returns-clause-ok c = (added c).orders ∙ ap (λ (os : List Order). os ++ c.args.order.now ∷ []) c.self.view_is
