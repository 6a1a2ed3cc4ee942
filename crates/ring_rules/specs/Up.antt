-- Which nodes are up, as one node knows it.
use Rattle.std.specs.Prelude.{ℕ, ◌-◌, ◌*◌, Bool, false, not, ◌||◌, ◌==◌, List, Option, Some, None}
use Rattle.ring_points.specs.declared.who.Who.{Who}
use Rattle.ring_route.specs.Routes.{is_among, up_of}
use Rattle.ring_rules.specs.Rings.{Ring}

-- the instance was heard, and is not accused
abbrev pub is_trusted : List Who → Option Who → Bool
is_trusted accused None = false
is_trusted accused (Some who) = not (is_among who accused)

-- two leases of this length before a reading, at least 0
abbrev pub long_ago : ℕ → ℕ → ℕ
long_ago now lease = now - 2 * lease

-- the node itself, and each node that was heard since then in an instance that is not accused
abbrev pub is_up : ℕ → Ring → ℕ → Bool
is_up since r node = node == r.me.actor || is_trusted r.accused (up_of r.routes node since)
