-- How far the points of a list stand above a key, going upwards round the ring.
use Rattle.std.specs.Prelude.{ℕ, ◌+◌, ◌-◌, ◌%◌, ◌^◌, List, [], ◌∷◌, min, max, map}
use Rattle.ring_points.specs.Distances.{ahead_of}

abbrev pub least_of : List ℕ → ℕ
least_of [] = 2 ^ 64 - 1
least_of (x ∷ xs) = min x (least_of xs)

abbrev pub greatest_of : List ℕ → ℕ
greatest_of [] = 0
greatest_of (x ∷ xs) = max x (greatest_of xs)

abbrev pub above : ℕ → List ℕ → List ℕ
above key points = map (λ p. ahead_of p key) points

-- each lane half the ring further
abbrev pub turned : List ℕ → List ℕ
turned lanes = map (λ x. (x + 2 ^ 63) % 2 ^ 64) lanes
