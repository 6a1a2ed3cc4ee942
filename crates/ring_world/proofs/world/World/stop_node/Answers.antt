use Rattle.std.proofs.Common.{◌≡◌, true, false, refl, sym, ap, ◌∙◌, Some, arith, ℕ, List}
use Rattle.std.specs.Prelude.{is_some, slice_set}
use Rattle.std.proofs.lemmas.Result.{err_from_is_err_and}
use Rattle.fabric_terms.specs.declared.report.Report.{Report}
use Rattle.ring_world.specs.declared.running.Running.{Running}
use Rattle.fabric_terms.specs.declared.event.Event.TheVariants.{Stop}
use Rattle.world_rules.specs.Events.{world_step, node_stops}
use Rattle.unit_rules.specs.Fabric.{fabric}
use Rattle.node_core.specs.Nodes.{Core, kept_in}
use Rattle.node_core.specs.declared.kept.NodeKept.{NodeKept}
use Rattle.world_rules.specs.Nodes.{NodeState}
use Rattle.world_rules.specs.Worlds.{Stepped}
use Rattle.ring_world.proofs.NodePlaces.{placed, read_at}
use Rattle.ring_world.proofs.NodeStop.{seen_ended, stop_moves}
use Rattle.ring_world.proofs.Limits.{room_is, room_test, same_world, bound-stop, few_events}
use Rattle.ring_world.proofs.StopNames.{stop_runs, node_runs_is, stop_node_is}
use Rattle.ring_world.proofs.world.World.stop_node.Goals as goal

pub returns-in_default : goal.returns-in_default
returns-in_default c w s =
    let none = c.in_default.ensures w s in
    (stop_runs c.args.self.now w c.args.node false (node_runs_is c.args.self.now w c.args.node false c.requires.node (ap (λ o. is_some o) none)), same_world c.args.self.now)

pub returns-then-not-may_come : goal.returns-then-not-may_come
returns-then-not-may_come c w s =
    let a = c.args.self.now in
    let k = c.in-Some.ensures w s in
    let full : room_test a false ≡ false = sym c.may_come.ensures ∙ c.if-not-may_come.true in (
      (stop_runs a w c.args.node true (node_runs_is a w c.args.node true c.requires.node (ap (λ o. is_some o) k.found)), bound-stop a w c.args.node, room_is a w (Stop c.args.node) false s refl refl ∙ full),
      same_world a,
    )

pub returns-in_err-reports : goal.returns-in_err-reports
returns-in_err-reports c w s =
    let a = c.args.self.now in
    let k = c.in-Some.ensures w s in
    let room : room_test a false ≡ true = sym c.may_come.ensures ∙ c.if-not-may_come.false in
    let step : world_step fabric a.config w (Stop c.args.node) ≡ node_stops fabric w c.args.node (Some k.value) =
    stop_node_is a w c.args.node c.requires.node ∙ ap (λ o. node_stops fabric w c.args.node o) k.found in
    let p = err_from_is_err_and c.from_residual.result c.from_residual.ensures.1 in
    rw (p.1, p.2) (
      (
        record {
          there = stop_runs a w c.args.node true (node_runs_is a w c.args.node true c.requires.node (ap (λ o. is_some o) k.found));
          bound = bound-stop a w c.args.node;
          room = room_is a w (Stop c.args.node) false s refl refl ∙ room;
        },
        ap (λ (x : Stepped fabric). is_some x.entry) step,
      ),
      same_world a,
    )

pub remove-reading-requires : goal.remove-reading-requires
remove-reading-requires c =
    let can = c.requires.can in
    let k = c.in-Some.ensures can.0 can.1 in
    let here = placed c.args.self.now can.0 c.in-Some.place c.args.node k.value can.1 k.here in
    omega (arith, here.clock_within)

pub remove-requires : goal.remove-requires
remove-requires c =
    let can = c.requires.can in
    let k = c.in-Some.ensures can.0 can.1 in
    let here = placed c.args.self.now can.0 c.in-Some.place c.args.node k.value can.1 k.here in
    omega (arith, here.within)

pub index_mut-requires : goal.index_mut-requires
index_mut-requires c =
    let can = c.requires.can in
    omega (arith, can.1.nodes.kept.table, c.from.ensures, c.requires.node)

pub returns : goal.returns
returns c w s =
    let a = c.args.self.now in
    let place = c.in-Some.place in
    let k = c.in-Some.ensures w s in
    let room : room_test a false ≡ true = sym c.may_come.ensures ∙ c.if-not-may_come.false in
    let step : world_step fabric a.config w (Stop c.args.node) ≡ node_stops fabric w c.args.node (Some k.value) =
    stop_node_is a w c.args.node c.requires.node ∙ ap (λ o. node_stops fabric w c.args.node o) k.found in
    let at = placed a w place c.args.node k.value s k.here in
    let code : c.remove.result ≡ at.code = read_at a.running.items place at.code c.remove.result at.here c.remove.ensures.value in
    let kept : c.take_kept.result ≡ kept_in k.value.node =
    c.take_kept.ensures.given ∙ (ap (λ (n : Core). kept_in n.state) c.deref_mut.ensures.value ∙ (ap (λ (r : Running). kept_in r.node.value.state) code ∙ ap (λ (n : NodeState fabric). kept_in n) at.runs.node)) in (
      record {
        there = stop_runs a w c.args.node true (node_runs_is a w c.args.node true c.requires.node (ap (λ o. is_some o) k.found));
        bound = bound-stop a w c.args.node;
        room = room_is a w (Stop c.args.node) false s refl refl ∙ room;
      },
      stop_moves a w place c.args.node k.value c.remove-reading.result s k.here c.remove-reading.ensures.value (few_events a false room) _ _ _ _ step
          (seen_ended a c.args.node place c.remove-reading.new.self.items c.remove.new.self.items (slice_set a.kept.items c.from.result c.take_kept.result) (kept_in k.value.node)
          c.remove-reading.ensures.items c.remove.ensures.items
          (ap (λ (i : ℕ). slice_set a.kept.items i c.take_kept.result) c.from.ensures ∙ ap (λ (q : NodeKept). slice_set a.kept.items c.args.node q) kept))
          refl
          (ap (λ (rs : List Report). record { line = c.args.line; time = a.time; who = c.remove-reading.result.0; reading = Some c.remove-reading.result.1; sent = (0, 0); reports = rs }) c.in_ok-reports.ensures),
    )
