use Rattle.std.proofs.Common.{◌≡◌, ◌∙◌, sym, ap, subst, true, false, IsTrue, length, List, arith}
use Rattle.ring_route.specs.declared.known.Known.{Known}
use Rattle.ring_route.specs.Entries.{is_node, is_known}
use Rattle.ring_route.specs.Routes.{Routes, point_of}
use Rattle.ring_route.proofs.Heard.{refill_same, pushed, changed, heard_table}
use Rattle.ring_route.proofs.Pigeons.{room_for_node}
use Rattle.ring_route.proofs.table.RouteTable.heard.Goals as goal

pub push-requires : goal.push-requires
push-requires c =
    let there : is_node c.args.who.actor c.self.inside.points.items ≡ true = let P : Routes → Type 0 = λ r. IsTrue (is_node c.args.who.actor r.points) in subst P (sym c.self.view_is) c.requires in
    let not-known : c.hear_again.result ≡ false = grind arith in
    let new : is_known c.args.who.actor c.self.inside.known.items ≡ false = ap (is_known c.args.who.actor) (sym c.as_mut_slice.ensures.value) ∙ sym c.hear_again.ensures.found ∙ not-known in
    let same : length c.hear_again.new.known ≡ length c.self.inside.known.items = ap length (c.hear_again.ensures.kept not-known ∙ c.as_mut_slice.ensures.value) in
    omega (arith, c.self.invariant.few, ap length (refill_same c.self.inside.known.items c.hear_again.new.known same), same, room_for_node c.self.inside.points.items c.self.inside.known.items c.args.who.actor c.self.invariant.entries there new)

pub invariant_of-self : goal.invariant_of-self
invariant_of-self c =
    let there : is_node c.args.who.actor c.self.inside.points.items ≡ true = let P : Routes → Type 0 = λ r. IsTrue (is_node c.args.who.actor r.points) in subst P (sym c.self.view_is) c.requires in
    let not-known : c.hear_again.result ≡ false = grind arith in
    heard_table c.args.who c.self.inside.points.items c.args.now c.self.inside.known.items c.push.new.self.items there c.self.invariant
    (pushed c.args.who c.self.inside.points.items c.args.now c.point_of-point.result c.self.inside.known.items c.as_mut_slice.result.now c.hear_again.new.known c.push.new.self.items c.as_mut_slice.ensures.value (c.hear_again.ensures.kept not-known)
    (c.point_of-point.ensures ∙ ap (point_of c.args.who.actor) c.as_slice.ensures.value)
    (sym c.hear_again.ensures.found ∙ not-known) c.push.ensures.items)

pub invariant_of-self-else-not-hear_again : goal.invariant_of-self-else-not-hear_again
invariant_of-self-else-not-hear_again c =
    let there : is_node c.args.who.actor c.self.inside.points.items ≡ true = let P : Routes → Type 0 = λ r. IsTrue (is_node c.args.who.actor r.points) in subst P (sym c.self.view_is) c.requires in
    let known : c.hear_again.result ≡ true = grind arith in
    heard_table c.args.who c.self.inside.points.items c.args.now c.self.inside.known.items _ there c.self.invariant
    (changed c.args.who c.self.inside.points.items c.args.now c.self.inside.known.items c.as_mut_slice.result.now c.hear_again.new.known c.as_mut_slice.ensures.value (omega (arith, c.hear_again.auto.known, ap length c.as_mut_slice.ensures.value)) (c.hear_again.ensures.heard known (point_of c.args.who.actor c.self.inside.points.items)))

pub returns-then-not-hear_again : goal.returns-then-not-hear_again
returns-then-not-hear_again c =
    let not-known : c.hear_again.result ≡ false = grind arith in
    rw (← c.self.view_is) (ap (λ (known : List Known). let r : Routes = record { me = c.self.inside.me; points = c.self.inside.points.items; known = known } in r)
    (pushed c.args.who c.self.inside.points.items c.args.now c.point_of-point.result c.self.inside.known.items c.as_mut_slice.result.now c.hear_again.new.known c.push.new.self.items c.as_mut_slice.ensures.value (c.hear_again.ensures.kept not-known)
    (c.point_of-point.ensures ∙ ap (point_of c.args.who.actor) c.as_slice.ensures.value)
    (sym c.hear_again.ensures.found ∙ not-known) c.push.ensures.items))
