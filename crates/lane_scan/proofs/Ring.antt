-- Of all points, the nearest to a key is the next upwards or the next downwards.
use Rattle.std.proofs.Common.{◌≡◌, ℕ, ◌+◌, ◌%◌, ◌^◌, ◌<◌, ◌≤◌, inl, inr, true, false, List, length, sym, ap, ◌∙◌, arith, get_or}
use Rattle.std.proofs.lemmas.Bool.{cases_lt}
use Rattle.std.proofs.lemmas.List.{length-map, get_or-map, get_or_past}
use Rattle.ring_points.specs.Distances.{ahead_of, distance_of, is_nearer}
use Rattle.lane_scan.specs.Nearest.{IsNearestPoint}
use Rattle.lane_scan.specs.Spans.{above, least_of, greatest_of}
use Rattle.lane_scan.proofs.Bounds.{StandsAt, least_of-le-get_or, greatest_of-ge-get_or, least_of_stands, greatest_of_stands}
use Rattle.lane_scan.proofs.Distance.{Behind, is_first, is_second, further, further_too, back_again, distance_by_ahead, ahead_of-lt, none_before_first, none_before_second}

-- above the key by the same, the same point
same_ahead : (p q key : ℕ) → p < 2 ^ 64 → q < 2 ^ 64 → key < 2 ^ 64 → ahead_of p key ≡ ahead_of q key → p ≡ q
same_ahead p q key a b c e = sym (back_again p key a c) ∙ ap (λ u. (key + u) % 2 ^ 64) e ∙ back_again q key b c

-- a stands the least above the key, b the most
pub behind_the_next : (key a b p : ℕ) → key < 2 ^ 64 → a < 2 ^ 64 → b < 2 ^ 64 → p < 2 ^ 64 → ahead_of a key ≤ ahead_of p key → ahead_of p key ≤ ahead_of b key → Behind (distance_of key a) a (distance_of key b) b (distance_of key p) p
behind_the_next key a b p key_fits a_fits b_fits p_fits above below =
    let da = distance_by_ahead a key a_fits key_fits in
    let db = distance_by_ahead b key b_fits key_fits in
    let dp = distance_by_ahead p key p_fits key_fits in
    let ub = ahead_of-lt b key in
    elim (cases_lt (2 ^ 63) (ahead_of p key)) [
      | inr up ↦ elim (cases_lt (ahead_of a key) (ahead_of p key)) [
        | inl less ↦ further (omega arith)
        | inr same ↦ let e : p ≡ a = same_ahead p a key p_fits a_fits key_fits (omega arith) in is_first e (ap (distance_of key) e)
      ]
      | inl down ↦ elim (cases_lt (ahead_of p key) (ahead_of b key)) [
        | inl less ↦ further_too (omega arith)
        | inr same ↦ let e : p ≡ b = same_ahead p b key p_fits b_fits key_fits (omega arith) in is_second e (ap (distance_of key) e)
      ]
    ]

-- the next point upwards from the key, and the next downwards
pub record Next (key : ℕ) (points : List ℕ) (upwards downwards : ℕ) : Type 0 where
  pub upwards_in : StandsAt points upwards
  pub downwards_in : StandsAt points downwards
  pub behind : (k : ℕ) → k < length points → Behind (distance_of key upwards) upwards (distance_of key downwards) downwards (distance_of key (get_or points k 0)) (get_or points k 0)

-- where a number stands among those above the key, the point is there
point_of : (key : ℕ) (points : List ℕ) (n : ℕ) → key < 2 ^ 64 → ((k : ℕ) → get_or points k 0 < 2 ^ 64) → StandsAt (above key points) n → StandsAt points ((key + n) % 2 ^ 64)
point_of key points n key_fits fit s =
    let inside : s.place < length points = omega (arith, s.inside, length-map points (λ p. ahead_of p key)) in
    let read : ahead_of (get_or points s.place 0) key ≡ n = sym (get_or-map (λ p. ahead_of p key) points s.place 0 0 inside) ∙ s.is in
    record { place = s.place; inside = inside; is = sym (back_again (get_or points s.place 0) key (fit s.place) key_fits) ∙ ap (λ u. (key + u) % 2 ^ 64) read }

ahead_again : (key n : ℕ) → key < 2 ^ 64 → n < 2 ^ 64 → ahead_of ((key + n) % 2 ^ 64) key ≡ n
ahead_again key n a b = omega arith

above_fits : (key : ℕ) (points : List ℕ) (k : ℕ) → get_or (above key points) k 0 < 2 ^ 64
above_fits key points k = elim (cases_lt k (length points)) [
  | inl inside ↦ let read = get_or-map (λ p. ahead_of p key) points k 0 0 inside in omega (arith, ahead_of-lt (get_or points k 0) key)
  | inr past ↦ let none = get_or_past (above key points) k 0 (omega (arith, length-map points (λ p. ahead_of p key))) in omega arith
]

pub next_of : (key : ℕ) (points : List ℕ) → 0 < length points → key < 2 ^ 64 → ((k : ℕ) → get_or points k 0 < 2 ^ 64) → Next key points ((key + least_of (above key points)) % 2 ^ 64) ((key + greatest_of (above key points)) % 2 ^ 64)
next_of key points some key_fits fit =
    let xs = above key points in
    let long = length-map points (λ p. ahead_of p key) in
    let least = least_of_stands xs (omega arith) (above_fits key points) in
    let greatest = greatest_of_stands xs (omega arith) in
    let least_fits : least_of xs < 2 ^ 64 = omega (arith, least.is, above_fits key points least.place) in
    let greatest_fits : greatest_of xs < 2 ^ 64 = omega (arith, greatest.is, above_fits key points greatest.place) in
    let up : ℕ = (key + least_of xs) % 2 ^ 64 in
    let down : ℕ = (key + greatest_of xs) % 2 ^ 64 in
    let up_ahead = ahead_again key (least_of xs) key_fits least_fits in
    let down_ahead = ahead_again key (greatest_of xs) key_fits greatest_fits in
    record {
      upwards_in = point_of key points (least_of xs) key_fits fit least;
      downwards_in = point_of key points (greatest_of xs) key_fits fit greatest;
      behind = λ k inside.
          let read = get_or-map (λ p. ahead_of p key) points k 0 0 inside in
          let above = least_of-le-get_or xs k (omega arith) in
          let below = greatest_of-ge-get_or xs k (omega arith) in
          behind_the_next key up down (get_or points k 0) key_fits (omega arith) (omega arith) (fit k) (omega arith) (omega arith);
    }

pub nearest_second : (key : ℕ) (points : List ℕ) (upwards downwards : ℕ) → Next key points upwards downwards → is_nearer key downwards upwards ≡ true → IsNearestPoint key points downwards
nearest_second key points upwards downwards n test = record {
  place = n.downwards_in.place;
  inside = n.downwards_in.inside;
  here = n.downwards_in.is;
  none = λ k inside. none_before_second (distance_of key upwards) upwards (distance_of key downwards) downwards (distance_of key (get_or points k 0)) (get_or points k 0) test (n.behind k inside);
}

pub nearest_first : (key : ℕ) (points : List ℕ) (upwards downwards : ℕ) → Next key points upwards downwards → is_nearer key downwards upwards ≡ false → IsNearestPoint key points upwards
nearest_first key points upwards downwards n test = record {
  place = n.upwards_in.place;
  inside = n.upwards_in.inside;
  here = n.upwards_in.is;
  none = λ k inside. none_before_first (distance_of key upwards) upwards (distance_of key downwards) downwards (distance_of key (get_or points k 0)) (get_or points k 0) test (n.behind k inside);
}
