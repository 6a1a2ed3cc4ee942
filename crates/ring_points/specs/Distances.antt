-- How far two points are from each other, and which of two is nearer.
use Rattle.std.specs.Prelude.{ℕ, ◌+◌, ◌-◌, ◌%◌, ◌^◌, Bool, ◌&&◌, ◌||◌, ◌==◌, min, nat_lt}

-- how far the point a stands behind the point b, going upwards round the ring
abbrev pub ahead_of : ℕ → ℕ → ℕ
ahead_of a b = (a + 2 ^ 64 - b) % 2 ^ 64

-- the shorter way round the ring
abbrev pub distance_of : ℕ → ℕ → ℕ
distance_of a b = min (ahead_of a b) (ahead_of b a)

-- p is nearer to a than to b: by the distance, then by the lower point
abbrev pub is_nearer : ℕ → ℕ → ℕ → Bool
is_nearer p a b = nat_lt (distance_of p a) (distance_of p b) || (distance_of p a == distance_of p b && nat_lt a b)
