-- Which points of a list are in a range.
use Rattle.std.specs.Prelude.{ℕ, ◌/◌, ◌%◌, ◌<◌, ◌≤◌, Bool, ◌&&◌, List, length, slice_index, map, nat_le}
use Rattle.std.specs.Int.{bit_at}
use Rattle.std.specs.Simd.Lanes.{mask_l}

-- bit number i of the mask
abbrev pub bit_of : List ℕ → ℕ → ℕ
bit_of mask i = bit_at (slice_index mask (i / 64)) (i % 64)

-- the point at this place is there, and from lo to hi
pub record IsIn (lo hi : ℕ) (points : List ℕ) (i : ℕ) : Type 0 where
  pub inside : i < length points
  pub from : lo ≤ slice_index points i
  pub to : slice_index points i ≤ hi

abbrev pub is_between : ℕ → ℕ → ℕ → Bool
is_between lo hi p = nat_le lo p && nat_le p hi

-- the number whose bits say which points are from lo to hi, the first the lowest
abbrev pub mask_of : ℕ → ℕ → List ℕ → ℕ
mask_of lo hi points = mask_l (map (is_between lo hi) points)
