-- The known nodes, and the next hop to a point.
use Rattle.std.specs.Prelude.{ℕ, Bool, true, false, not, ◌&&◌, ◌==◌, List, [], ◌∷◌, ◌++◌, Option, Some, None, filter, find, take, map, nat_le, nat_lt, option_map, if◌then◌else◌}
use Rattle.std.specs.List.{list_any}
use Rattle.ring_points.specs.declared.who.Who.{Who}
use Rattle.ring_points.specs.Whos.{same_who}
use Rattle.ring_points.specs.Distances.{is_nearer, ahead_of}
use Rattle.ring_route.specs.declared.known.Known.{Known}
use Rattle.ring_route.specs.declared.hop.Hop.{Hop}
use Rattle.ring_route.specs.declared.hop.Hop.TheVariants.{Here, To, Nowhere}

-- what a node knows: the points of the configured nodes, and whom it heard, in the order of first hearing
pub record Routes : Type 0 where
  pub me : Who
  pub points : List (ℕ × ℕ)
  pub known : List Known

-- the point of a node, 0 where it is not configured
abbrev pub point_of : ℕ → List (ℕ × ℕ) → ℕ
point_of node [] = 0
point_of node (p ∷ ps) = if p.0 == node then p.1 else point_of node ps

-- heard again: the later instance counts, and a lower one changes nothing
abbrev pub heard_again : Who → ℕ → Known → Known
heard_again who now k = if nat_le k.who.instance who.instance then record k { who = who; heard = now } else k

abbrev pub heard_in : Who → ℕ → ℕ → List Known → List Known
heard_in who point now [] = record { who = who; point = point; heard = now } ∷ []
heard_in who point now (k ∷ ks) = if k.who.actor == who.actor then heard_again who now k ∷ ks else k ∷ heard_in who point now ks

abbrev pub heard : Routes → Who → ℕ → Routes
heard r who now = record r { known = heard_in who (point_of who.actor r.points) now r.known }

-- the instance of the node, if it was heard at this reading or later
abbrev pub up_of : Routes → ℕ → ℕ → Option Who
up_of r node since = option_map (λ k. k.who) (find (λ k. k.who.actor == node && nat_le since k.heard) r.known)

abbrev pub is_among : Who → List Who → Bool
is_among who whos = list_any (same_who who) whos

abbrev pub is_skipped : Option ℕ → ℕ → Bool
is_skipped None node = false
is_skipped (Some n) node = n == node

-- neither skipped nor accused
abbrev pub may_hop : Option ℕ → List Who → Known → Bool
may_hop skip accused k = not (is_skipped skip k.who.actor) && not (is_among k.who accused)

abbrev pub nearer_known : ℕ → Known → Option Known → Option Known
nearer_known key k None = Some k
nearer_known key k (Some other) = if is_nearer key other.point k.point then Some other else Some k

-- the first of these that no other is nearer to the key than
abbrev pub nearest_of : ℕ → List Known → Option Known
nearest_of key [] = None
nearest_of key (k ∷ ks) = nearer_known key k (nearest_of key ks)

abbrev pub hop_to : ℕ → ℕ → Option Known → Hop
hop_to key own None = Nowhere
hop_to key own (Some k) = if is_nearer key k.point own then To k.who else Nowhere

-- the next hop to a point
abbrev pub next_hop : Routes → ℕ → Bool → Option ℕ → List Who → Hop
next_hop r key true skip accused = Here
next_hop r key false skip accused = hop_to key (point_of r.me.actor r.points) (nearest_of key (filter (may_hop skip accused) r.known))

-- the known nodes that are not accused, by how far upwards they stand from the own point
abbrev pub put_by : (Known → ℕ) → Known → List Known → List Known
put_by far k [] = k ∷ []
put_by far k (x ∷ xs) = if nat_lt (far k) (far x) then k ∷ x ∷ xs else x ∷ put_by far k xs

abbrev pub sorted_by : (Known → ℕ) → List Known → List Known
sorted_by far [] = []
sorted_by far (k ∷ ks) = put_by far k (sorted_by far ks)

abbrev pub without_repeats : List ℕ → List ℕ
without_repeats [] = []
without_repeats (n ∷ ns) = n ∷ filter (λ m. not (m == n)) (without_repeats ns)

-- the nodes next upwards from the own point, then those next downwards
abbrev pub near_nodes : Routes → ℕ → List Who → List ℕ
near_nodes r count accused =
    let own = point_of r.me.actor r.points in
    let others = filter (λ k. not (is_among k.who accused)) r.known in
    let upwards = take count (sorted_by (λ k. ahead_of k.point own) others) in
    let downwards = take count (sorted_by (λ k. ahead_of own k.point) others) in
    without_repeats (map (λ k. k.who.actor) (upwards ++ downwards))
