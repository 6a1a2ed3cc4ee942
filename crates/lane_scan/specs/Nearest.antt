-- Which point of a list is nearest to a key.
use Rattle.std.specs.Prelude.{◌≡◌, ◌≢◌, ℕ, suc, ◌<◌, true, false, List, [], ◌∷◌, length, slice_index, Option, None, Some, MatchOption, map, ◌==◌, if◌then◌else◌}
use Rattle.std.specs.Simd.Lanes.{mask_l}
use Rattle.ring_points.specs.Distances.{is_nearer}

-- the head, unless the one at this place of the tail is nearer
abbrev pub nearer_place : ℕ → ℕ → List ℕ → Option ℕ → Option ℕ
nearer_place key p ps None = Some 0
nearer_place key p ps (Some i) = if is_nearer key (slice_index ps i) p then Some (suc i) else Some 0

-- the first place of a point that no other is nearer to the key than
abbrev pub nearest_place : ℕ → List ℕ → Option ℕ
nearest_place key [] = None
nearest_place key (p ∷ ps) = nearer_place key p ps (nearest_place key ps)

-- no point of the list is nearer than the one at this place, and it is nearer than each before it
pub record IsNearest (key : ℕ) (points : List ℕ) (i : ℕ) : Type 0 where
  pub inside : i < length points
  pub none : (k : ℕ) → k < length points → is_nearer key (slice_index points k) (slice_index points i) ≡ false
  pub first : (k : ℕ) → k < i → is_nearer key (slice_index points i) (slice_index points k) ≡ true

-- the place that the recursion finds is that of the nearest point
abbrev pub FindsTheNearest : Type 0
FindsTheNearest = (key : ℕ) (points : List ℕ) → MatchOption (nearest_place key points) (points ≡ []) (IsNearest key points)

-- the point stands at this place and at none before it
pub record IsFirst (point : ℕ) (points : List ℕ) (i : ℕ) : Type 0 where
  pub inside : i < length points
  pub here : slice_index points i ≡ point
  pub before : (k : ℕ) → k < i → slice_index points k ≢ point

-- the first place of the point, none where it stands nowhere
abbrev pub FirstPlace : ℕ → List ℕ → Option ℕ → Type 0
FirstPlace point points place =
    MatchOption place ((k : ℕ) → k < length points → slice_index points k ≢ point) (IsFirst point points)

-- the number whose bits say which points are this one, the first the lowest
abbrev pub hits_of : ℕ → List ℕ → ℕ
hits_of point points = mask_l (map (λ p. p == point) points)

-- the point stands in the list, and no other there is nearer
pub record IsNearestPoint (key : ℕ) (points : List ℕ) (point : ℕ) : Type 0 where
  pub place : ℕ
  pub inside : place < length points
  pub here : slice_index points place ≡ point
  pub none : (k : ℕ) → k < length points → is_nearer key (slice_index points k) point ≡ false
