-- The point of a node in a list, from a place on.
use Rattle.std.proofs.Common.{ℕ, List, map}
use Rattle.ring_points.specs.declared.point.Point.{Point}
use Rattle.ring_route.specs.Routes.{point_of}

-- the points as the routes have them
abbrev pub numbered : List (ℕ × Point) → List (ℕ × ℕ)
numbered ps = map (λ p. (p.0, p.1.0)) ps

-- the point of a node among these
abbrev pub point_among : ℕ → List (ℕ × Point) → ℕ
point_among node ps = point_of node (numbered ps)
