-- The nodes next upwards and next downwards.
use Rattle.std.proofs.Common.{◌≡◌, ◌∙◌, ℕ, List, ◌++◌, sym, ap, map, take, filter, None}
use Rattle.std.proofs.lemmas.List.{map-append}
use Rattle.ring_points.specs.declared.who.Who.{Who}
use Rattle.ring_route.specs.declared.known.Known.{Known}
use Rattle.ring_route.specs.declared.near.Way.TheVariants.{Upwards, Downwards}
use Rattle.ring_route.specs.Entries.{far_of}
use Rattle.ring_route.specs.Routes.{Routes, point_of, may_hop, sorted_by, near_nodes, without_repeats}

abbrev actor : Known → ℕ
actor k = k.who.actor

pub near_is : (r : Routes) (count : ℕ) (accused : List Who) (own : ℕ) (others up down : List Known) (first both : List ℕ) → own ≡ point_of r.me.actor r.points → others ≡ filter (may_hop None accused) r.known → up ≡ sorted_by (far_of Upwards own) others → down ≡ sorted_by (far_of Downwards own) others → first ≡ map (λ (k : Known). k.who.actor) (take count up) → both ≡ first ++ map (λ (k : Known). k.who.actor) (take count down) → without_repeats both ≡ near_nodes r count accused
near_is r count accused own others up down first both own-is others-is up-is down-is first-is both-is =
    let home : ℕ = point_of r.me.actor r.points in
    let free : List Known = filter (may_hop None accused) r.known in
    let up-all : up ≡ sorted_by (far_of Upwards home) free =
    up-is ∙ ap (sorted_by (far_of Upwards own)) others-is ∙ ap (λ (o : ℕ). sorted_by (far_of Upwards o) free) own-is in
    let down-all : down ≡ sorted_by (far_of Downwards home) free =
    down-is ∙ ap (sorted_by (far_of Downwards own)) others-is ∙ ap (λ (o : ℕ). sorted_by (far_of Downwards o) free) own-is in
    let all : both ≡ map actor (take count (sorted_by (far_of Upwards home) free)) ++ map actor (take count (sorted_by (far_of Downwards home) free)) =
    both-is
    ∙ ap (λ (ns : List ℕ). ns ++ map actor (take count down)) (first-is ∙ ap (λ (ks : List Known). map actor (take count ks)) up-all)
    ∙ ap (λ (ks : List Known). map actor (take count (sorted_by (far_of Upwards home) free)) ++ map actor (take count ks)) down-all in
    ap without_repeats (all ∙ sym (map-append actor (take count (sorted_by (far_of Upwards home) free)) (take count (sorted_by (far_of Downwards home) free))))
