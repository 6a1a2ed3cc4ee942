use Rattle.std.proofs.Common.{◌≡◌, true, false, Some, refl, sym, ap, subst, ◌∙◌}
use Rattle.std.specs.Prelude.{is_some}
use Rattle.std.proofs.lemmas.Result.{err_from_is_err_and}
use Rattle.fabric_terms.specs.declared.event.Event.TheVariants.{Start}
use Rattle.fabric_lemmas.specs.Maps.{at}
use Rattle.world_rules.specs.Schedules.{is_configured_node}
use Rattle.ring_world.specs.Seen.{Seen}
use Rattle.ring_world.specs.Stands.{SeenStands}
use Rattle.ring_world.proofs.Limits.{room_is, room_test, same_on, same_world, bound-start}
use Rattle.ring_world.proofs.NodeStartNames.{absent_where, after_room, runs_where, start_short, start_there}
use Rattle.ring_world.proofs.world.World.start_node.Goals as goal

pub returns-then-not-is_configured_node : goal.returns-then-not-is_configured_node
returns-then-not-is_configured_node c w s =
    let a = c.args.self.now in
    let no : is_configured_node a.config c.args.node ≡ false = sym c.is_configured_node.ensures ∙ c.if-not-is_configured_node.true in
    (start_there a w c.args.node c.args.reading false (is_some (at c.args.node w.nodes)) no refl, same_world a)

pub returns-then-is_some : goal.returns-then-is_some
returns-then-is_some c w s =
    let a = c.args.self.now in
    let yes : is_configured_node a.config c.args.node ≡ true = sym c.is_configured_node.ensures ∙ c.if-not-is_configured_node.false in
    let runs : is_some (at c.args.node w.nodes) ≡ true = runs_where c.args.node w.nodes c.place_of.result (c.place_of.ensures w s) ∙ (sym c.is_some.ensures ∙ c.if-is_some.true) in
    (start_there a w c.args.node c.args.reading true true yes runs, same_world a)

pub returns-then-not-may_act : goal.returns-then-not-may_act
returns-then-not-may_act c w s =
    let a = c.args.self.now in
    let yes : is_configured_node a.config c.args.node ≡ true = sym c.is_configured_node.ensures ∙ c.if-not-is_configured_node.false in
    let none : is_some (at c.args.node w.nodes) ≡ false = runs_where c.args.node w.nodes c.place_of.result (c.place_of.ensures w s) ∙ (sym c.is_some.ensures ∙ c.if-is_some.false) in
    let full : room_test a true ≡ false = sym c.may_act.ensures ∙ c.if-not-may_act.true in
    ((start_there a w c.args.node c.args.reading true false yes none, bound-start a w c.args.node (Some c.args.reading), room_is a w (Start c.args.node (Some c.args.reading)) true s refl refl ∙ full), same_world a)

pub enter-requires-clause-can : goal.enter-requires-clause-can
enter-requires-clause-can c =
    let can = c.requires.can in
    let place = c.place_of.ensures can.0 can.1 in
    (can.0, subst (λ (x : Seen). SeenStands x can.0) (sym c.in_ok-make_place.ensures.same.seen) can.1, absent_where c.args.node can.0.nodes c.place_of.result place (sym c.is_some.ensures ∙ c.if-is_some.false))

pub enter-requires-clause-configured : goal.enter-requires-clause-configured
enter-requires-clause-configured c =
    ap (λ (x : Seen). is_configured_node x.config c.args.node) c.in_ok-make_place.ensures.same.seen ∙ (sym c.is_configured_node.ensures ∙ c.if-not-is_configured_node.false)

pub returns-in_err-make_place : goal.returns-in_err-make_place
returns-in_err-make_place c w s =
    let a = c.args.self.now in
    let yes : is_configured_node a.config c.args.node ≡ true = sym c.is_configured_node.ensures ∙ c.if-not-is_configured_node.false in
    let none : is_some (at c.args.node w.nodes) ≡ false = runs_where c.args.node w.nodes c.place_of.result (c.place_of.ensures w s) ∙ (sym c.is_some.ensures ∙ c.if-is_some.false) in
    let room : room_test a true ≡ true = sym c.may_act.ensures ∙ c.if-not-may_act.false in
    let p = err_from_is_err_and c.from_residual.result c.from_residual.ensures.1 in
    rw (p.1, p.2) (start_short a w c.args.node c.args.reading c.make_place.new.self s yes none room c.in_err-make_place.ensures.same)

pub returns-in_err-enter : goal.returns-in_err-enter
returns-in_err-enter c w s =
    let a = c.args.self.now in
    let place = c.place_of.ensures w s in
    let yes : is_configured_node a.config c.args.node ≡ true = sym c.is_configured_node.ensures ∙ c.if-not-is_configured_node.false in
    let none : is_some (at c.args.node w.nodes) ≡ false = runs_where c.args.node w.nodes c.place_of.result place ∙ (sym c.is_some.ensures ∙ c.if-is_some.false) in
    let room : room_test a true ≡ true = sym c.may_act.ensures ∙ c.if-not-may_act.false in
    let same = c.in_ok-make_place.ensures.same in
    let stands = subst (λ (x : Seen). SeenStands x w) (sym same.seen) s in
    let absent = absent_where c.args.node w.nodes c.place_of.result place (sym c.is_some.ensures ∙ c.if-is_some.false) in
    let p = err_from_is_err_and c.from_residual-in_err-enter.result c.from_residual-in_err-enter.ensures.1 in
    rw (p.1, p.2) (start_short a w c.args.node c.args.reading c.enter.new.self s yes none room (same_on same (c.in_err-enter.ensures w stands absent)))

pub returns : goal.returns
returns c w s =
    let a = c.args.self.now in
    let m = c.make_place.new.self in
    let place = c.place_of.ensures w s in
    let yes : is_configured_node a.config c.args.node ≡ true = sym c.is_configured_node.ensures ∙ c.if-not-is_configured_node.false in
    let none : is_some (at c.args.node w.nodes) ≡ false = runs_where c.args.node w.nodes c.place_of.result place ∙ (sym c.is_some.ensures ∙ c.if-is_some.false) in
    let room : room_test a true ≡ true = sym c.may_act.ensures ∙ c.if-not-may_act.false in
    let same = c.in_ok-make_place.ensures.same in
    let stands = subst (λ (x : Seen). SeenStands x w) (sym same.seen) s in
    let absent = absent_where c.args.node w.nodes c.place_of.result place (sym c.is_some.ensures ∙ c.if-is_some.false) in (
      record {
        there = start_there a w c.args.node c.args.reading true false yes none;
        bound = bound-start a w c.args.node (Some c.args.reading);
        room = room_is a w (Start c.args.node (Some c.args.reading)) true s refl refl ∙ room;
      },
      after_room a m c.enter.new.self w c.args.node c.args.reading c.args.line c.in_ok-enter.field-0 same (c.in_ok-enter.ensures w stands absent),
    )
