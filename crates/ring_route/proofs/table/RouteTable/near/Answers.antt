use Rattle.std.proofs.Common.{◌∙◌, ℕ, ap, List, None, filter, map, take, ◌++◌}
use Rattle.ring_route.specs.declared.known.Known.{Known}
use Rattle.ring_route.specs.declared.near.Way.TheVariants.{Upwards, Downwards}
use Rattle.ring_route.specs.Entries.{far_of}
use Rattle.ring_route.specs.Routes.{Routes, may_hop, near_nodes, sorted_by, without_repeats}
use Rattle.ring_route.proofs.Around.{near_is}
use Rattle.ring_route.proofs.table.RouteTable.near.Goals as goal

pub returns : goal.returns
returns c =
    c.without_repeats.ensures ∙ ap without_repeats c.as_slice-6.ensures.value
    ∙ near_is c.args.self.now c.from-count.result c.args.accused.now c.own-own.result c.hops-others.result.items c.sorted-upwards.result.items c.sorted-downwards.result.items c.add_nodes.new.nodes.items c.add_nodes-2.new.nodes.items
    c.own-own.ensures
    (c.hops-others.ensures ∙ ap (filter (may_hop None c.args.accused.now)) (c.as_slice.ensures.value ∙ ap (λ (r : Routes). r.known) c.self.view_is))
    (c.sorted-upwards.ensures ∙ ap (sorted_by (far_of Upwards c.own-own.result)) c.as_slice-2.ensures.value)
    (c.sorted-downwards.ensures ∙ ap (sorted_by (far_of Downwards c.own-own.result)) c.as_slice-4.ensures.value)
    (c.add_nodes.ensures ∙ ap (λ (ns : List ℕ). ns ++ map (λ (k : Known). k.who.actor) (take c.from-count.result c.as_slice-3.result.now)) c.new-nodes.ensures ∙ ap (λ (ks : List Known). map (λ (k : Known). k.who.actor) (take c.from-count.result ks)) c.as_slice-3.ensures.value)
    (c.add_nodes-2.ensures ∙ ap (λ (ks : List Known). c.add_nodes.new.nodes.items ++ map (λ (k : Known). k.who.actor) (take c.from-count.result ks)) c.as_slice-5.ensures.value)
    ∙ ap (λ (n : ℕ). near_nodes c.args.self.now n c.args.accused.now) c.from-count.ensures
