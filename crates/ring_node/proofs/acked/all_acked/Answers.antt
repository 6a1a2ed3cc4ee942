use Rattle.std.proofs.Common.{◌≡◌, ℕ, ◌<◌, ◌+◌, true, ◌&&◌, List, Option, length, take, get_or, refl, sym, ap, ◌∙◌, arith, rules}
use Rattle.std.proofs.lemmas.List.Folds.{list_all_more}
use Rattle.ring_rules.specs.declared.link.Link.{Link}
use Rattle.ring_rules.specs.Firing.{all_acked, has_acked}
use Rattle.ring_node.proofs.acked.all_acked.Goals as goal

more : (slots : List (Option Link)) (i : ℕ) (slot : Option Link) (version : ℕ) → i < length slots → slot ≡ get_or slots i slot → all_acked version (take i slots) ≡ true → has_acked version slot ≡ true → all_acked version (take (i + 1) slots) ≡ true
more slots i slot version h is a b =
    list_all_more (has_acked version) slots i slot h ∙ ap (λ (x : Option Link). all_acked version (take i slots) && has_acked version x) (sym is) ∙ rw (a, b) refl

pub loop-slot-preserved : goal.loop-slot-preserved
loop-slot-preserved c =
    let h : c.loop-slot.slot-index < length c.args.slots.now = omega arith in
    more c.args.slots.now c.loop-slot.slot-index c.slot-item.result c.args.version h c.slot-item.is c.loop-slot.invariant (search rules)
