-- The entries of a table: one for each node that was heard, with its configured point.
use Rattle.std.specs.Prelude.{ℕ, ◌≤◌, Bool, true, not, ◌&&◌, List, [], ◌∷◌, ◌++◌, length, map, ◌==◌, IsTrue, if◌then◌else◌}
use Rattle.std.specs.List.{list_any}
use Rattle.ring_points.specs.Limits.{most_nodes}
use Rattle.ring_points.specs.declared.point.Point.{Point}
use Rattle.ring_points.specs.declared.who.Who.{Who}
use Rattle.ring_points.specs.Distances.{ahead_of}
use Rattle.ring_route.specs.declared.known.Known.{Known}
use Rattle.ring_route.specs.declared.near.Way.{Way}
use Rattle.ring_route.specs.declared.near.Way.TheVariants.{Upwards, Downwards}
use Rattle.ring_route.specs.Routes.{Routes, point_of}

-- the node is configured
abbrev pub is_node : ℕ → List (ℕ × ℕ) → Bool
is_node node points = list_any (λ p. p.0 == node) points

abbrev pub is_known : ℕ → List Known → Bool
is_known node known = list_any (λ k. k.who.actor == node) known

abbrev pub has_its_point : List (ℕ × ℕ) → Known → Bool
has_its_point points k = k.point == point_of k.who.actor points

-- each is configured, has its point, and stands once
abbrev pub are_entries : List (ℕ × ℕ) → List Known → Bool
are_entries points [] = true
are_entries points (k ∷ ks) =
    is_node k.who.actor points && has_its_point points k && not (is_known k.who.actor ks) && are_entries points ks

pub record IsTable (points : List (ℕ × ℕ)) (known : List Known) : Type 0 where
  pub few : length points ≤ most_nodes
  pub entries : IsTrue (are_entries points known)

-- the points of the configured nodes
abbrev pub points_of : List (ℕ × Point) → List (ℕ × ℕ)
points_of points = map (λ p. (p.0, p.1.0)) points

abbrev pub no_routes : Who → List (ℕ × Point) → Routes
no_routes me points = record { me = me; points = points_of points; known = [] }

-- how far a node stands from the own point, this way round the ring
abbrev pub far_of : Way → ℕ → Known → ℕ
far_of Upwards own k = ahead_of k.point own
far_of Downwards own k = ahead_of own k.point

-- the list with this node, at the end unless it stands there already
abbrev pub with_one : ℕ → List ℕ → List ℕ
with_one n ns = if list_any (λ m. m == n) ns then ns else ns ++ n ∷ []
