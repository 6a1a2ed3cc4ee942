-- Sets of points, as tests.
use Rattle.std.specs.Prelude.{ℕ, ◌^◌, Bool, false, not, ◌&&◌, ◌||◌, nat_lt}

abbrev pub Points : Type 0
Points = ℕ → Bool

-- the points of the ring
unfoldable pub is_point : Points
is_point p = nat_lt p (2 ^ 64)

abbrev pub no_points : Points
no_points p = false

abbrev pub union : Points → Points → Points
union f g p = f p || g p

abbrev pub meet : Points → Points → Points
meet f g p = f p && g p

abbrev pub minus : Points → Points → Points
minus f g p = f p && not (g p)
