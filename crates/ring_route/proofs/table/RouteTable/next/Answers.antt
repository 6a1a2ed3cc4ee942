use Rattle.std.proofs.Common.{◌≡◌, ◌∙◌, sym, ap, List, filter, IsTrue}
use Rattle.ring_points.specs.Distances.{is_nearer}
use Rattle.ring_route.specs.declared.known.Known.{Known}
use Rattle.ring_route.specs.declared.hop.Hop.TheVariants.{To}
use Rattle.ring_route.specs.Routes.{Routes, hop_to, may_hop, nearest_of, point_of}
use Rattle.ring_route.proofs.Hops.{hop_nearer}
use Rattle.ring_route.proofs.table.RouteTable.next.Goals as goal

pub returns-clause-nearer : goal.returns-clause-nearer
returns-clause-nearer c = λ w e.
    let own-is : c.own.result ≡ point_of c.self.inside.me.actor c.self.inside.points.items = c.own.ensures ∙ ap (λ (r : Routes). point_of r.me.actor r.points) (sym c.self.view_is) in
    let free : c.as_slice-2.result.now ≡ filter (may_hop c.args.skip c.args.accused.now) c.self.inside.known.items = c.as_slice-2.ensures.value ∙ c.hops-hops.ensures ∙ ap (filter (may_hop c.args.skip c.args.accused.now)) c.as_slice.ensures.value in
    let hop : hop_to c.args.key.0 c.own.result (nearest_of c.args.key.0 (filter (may_hop c.args.skip c.args.accused.now) c.self.inside.known.items)) ≡ To w =
    ap (λ (ks : List Known). hop_to c.args.key.0 c.own.result (nearest_of c.args.key.0 ks)) (sym free) ∙ sym c.nearest_hop.ensures ∙ e in
    let near : IsTrue (is_nearer c.args.key.0 (point_of w.actor c.self.inside.points.items) c.own.result) =
    hop_nearer c.self.inside.points.items c.args.key.0 c.own.result (may_hop c.args.skip c.args.accused.now) c.self.inside.known.items w c.self.invariant.entries hop in
    rw (← c.self.view_is) (rw own-is at near)
