use Rattle.std.proofs.Common.{◌∙◌, ◌<◌, sym, Some, length, arith, get_or}
use Rattle.ring_route.specs.declared.known.Known.{Known}
use Rattle.ring_route.proofs.Hops.{hop_at, place_in, to_nearer, nowhere_nearer}
use Rattle.ring_route.proofs.table.nearest_hop.Goals as goal

pub bounds-hops-place : goal.bounds-hops-place
bounds-hops-place c = place_in c.args.key c.args.hops.now c.as_slice.result.now c.in-Some.place (c.as_slice.ensures.value ∙ c.points_of_hops-points.ensures) (sym c.in-Some.is ∙ c.nearest.ensures)

pub offset_bounds-hops-place : goal.offset_bounds-hops-place
offset_bounds-hops-place c =
    let inside : c.in-Some.place < length c.args.hops.now = place_in c.args.key c.args.hops.now c.as_slice.result.now c.in-Some.place (c.as_slice.ensures.value ∙ c.points_of_hops-points.ensures) (sym c.in-Some.is ∙ c.nearest.ensures) in
    omega arith

pub returns-then-nearer : goal.returns-then-nearer
returns-then-nearer c =
    let nobody : Known = record { who = record { actor = 0; instance = 0 }; point = 0; heard = 0 } in
    to_nearer c.args.key c.args.own (get_or c.args.hops.now c.in-Some.place nobody) (sym c.nearer.ensures ∙ c.if-nearer.true)
    ∙ hop_at c.args.key c.args.own c.args.hops.now nobody c.as_slice.result.now (Some c.in-Some.place) (c.as_slice.ensures.value ∙ c.points_of_hops-points.ensures) (sym c.in-Some.is ∙ c.nearest.ensures)

pub returns-else-nearer : goal.returns-else-nearer
returns-else-nearer c =
    let nobody : Known = record { who = record { actor = 0; instance = 0 }; point = 0; heard = 0 } in
    nowhere_nearer c.args.key c.args.own (get_or c.args.hops.now c.in-Some.place nobody) (sym c.nearer.ensures ∙ c.if-nearer.false)
    ∙ hop_at c.args.key c.args.own c.args.hops.now nobody c.as_slice.result.now (Some c.in-Some.place) (c.as_slice.ensures.value ∙ c.points_of_hops-points.ensures) (sym c.in-Some.is ∙ c.nearest.ensures)
