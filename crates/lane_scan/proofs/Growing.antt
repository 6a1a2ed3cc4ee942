-- The least and the greatest offset of a slice grow by a block of lanes, and by one point.
use Rattle.std.proofs.Common.{◌≡◌, ℕ, ◌+◌, ◌-◌, ◌<◌, ◌≤◌, List, [], ◌∷◌, ◌++◌, length, take, drop, min, max, refl, sym, ap, ◌∙◌, arith, get_or, add-one}
use lib.Lanes.{chunk}
use Rattle.std.proofs.Math.Seq.{take-add, take-suc}
use Rattle.std.proofs.lemmas.List.{map-append, take_all, length-drop, take-append-drop}
use Rattle.std.proofs.lemmas.Simd.{chunk-drop}
use Rattle.ring_points.specs.Distances.{ahead_of}
use Rattle.lane_scan.specs.Spans.{above, least_of, greatest_of}
use Rattle.lane_scan.proofs.Bounds.{least_of-append, least_of_le, greatest_of-append}

above-take : (key : ℕ) (points : List ℕ) (at n : ℕ) → above key (take (at + n) points) ≡ above key (take at points) ++ above key (chunk at n points)
above-take key points at n =
    ap (above key) (take-add at n points) ∙ map-append (λ p. ahead_of p key) (take at points) (chunk at n points)

above_next : (key : ℕ) (points : List ℕ) (at : ℕ) → at < length points → above key (take (at + 1) points) ≡ above key (take at points) ++ (ahead_of (get_or points at 0) key ∷ [])
above_next key points at inside =
    ap (above key) (rw (add-one, take-suc points at 0 inside) refl) ∙ map-append (λ p. ahead_of p key) (take at points) (get_or points at 0 ∷ [])

-- the least of one more block, of all but the last eight points and of those
pub least_block : (key : ℕ) (points : List ℕ) (at rest block former : ℕ) → block ≡ least_of (above key (chunk at 8 points)) → former ≡ min (least_of (above key (take at points))) rest → min block former ≡ min (least_of (above key (take (at + 8) points))) rest
least_block key points at rest block former is_block is_former =
    let more : least_of (above key (take (at + 8) points)) ≡ min (least_of (above key (take at points))) (least_of (above key (chunk at 8 points))) = ap least_of (above-take key points at 8) ∙ least_of-append (above key (take at points)) (above key (chunk at 8 points)) in
    omega arith

pub greatest_block : (key : ℕ) (points : List ℕ) (at rest block former : ℕ) → block ≡ greatest_of (above key (chunk at 8 points)) → former ≡ max (greatest_of (above key (take at points))) rest → max former block ≡ max (greatest_of (above key (take (at + 8) points))) rest
greatest_block key points at rest block former is_block is_former =
    let more : greatest_of (above key (take (at + 8) points)) ≡ max (greatest_of (above key (take at points))) (greatest_of (above key (chunk at 8 points))) = ap greatest_of (above-take key points at 8) ∙ greatest_of-append (above key (take at points)) (above key (chunk at 8 points)) in
    omega arith

pub least_next : (key : ℕ) (points : List ℕ) (at : ℕ) → at < length points → min (least_of (above key (take at points))) (ahead_of (get_or points at 0) key) ≡ least_of (above key (take (at + 1) points))
least_next key points at inside =
    let xs = above key (take at points) in
    let x = ahead_of (get_or points at 0) key in
    let le = least_of_le xs in
    let joined : least_of (xs ++ (x ∷ [])) ≡ min (least_of xs) x = least_of-append xs (x ∷ []) ∙ omega arith in
    sym (ap least_of (above_next key points at inside) ∙ joined)

pub greatest_next : (key : ℕ) (points : List ℕ) (at : ℕ) → at < length points → max (greatest_of (above key (take at points))) (ahead_of (get_or points at 0) key) ≡ greatest_of (above key (take (at + 1) points))
greatest_next key points at inside =
    let xs = above key (take at points) in
    let x = ahead_of (get_or points at 0) key in
    let joined : greatest_of (xs ++ (x ∷ [])) ≡ max (greatest_of xs) x = greatest_of-append xs (x ∷ []) ∙ omega arith in
    sym (ap greatest_of (above_next key points at inside) ∙ joined)

least-joined : (key : ℕ) (xs ys : List ℕ) → least_of (above key (xs ++ ys)) ≡ min (least_of (above key xs)) (least_of (above key ys))
least-joined key xs ys =
    ap least_of (map-append (λ p. ahead_of p key) xs ys) ∙ least_of-append (above key xs) (above key ys)

greatest-joined : (key : ℕ) (xs ys : List ℕ) → greatest_of (above key (xs ++ ys)) ≡ max (greatest_of (above key xs)) (greatest_of (above key ys))
greatest-joined key xs ys =
    ap greatest_of (map-append (λ p. ahead_of p key) xs ys) ∙ greatest_of-append (above key xs) (above key ys)

-- ---- the points before a place and those from a lower place on are all
pub least_whole : (key : ℕ) (points : List ℕ) (from at : ℕ) → from ≤ at → at ≤ length points → min (least_of (above key (take at points))) (least_of (above key (drop from points))) ≡ least_of (above key points)
least_whole key points from at low high =
    let n : ℕ = at - from in
    let f : List ℕ → ℕ = λ xs. least_of (above key xs) in
    let place : at ≡ from + n = omega arith in
    let front : f (take at points) ≡ min (f (take from points)) (f (chunk from n points)) = ap (λ k. f (take k points)) place ∙ ap f (take-add from n points) ∙ least-joined key (take from points) (chunk from n points) in
    let back : f (drop from points) ≡ min (f (chunk from n points)) (f (drop (from + n) points)) = ap f (chunk-drop from n points) ∙ least-joined key (chunk from n points) (drop (from + n) points) in
    let all : f points ≡ min (f (take from points)) (f (drop from points)) = ap f (sym (take-append-drop from points)) ∙ least-joined key (take from points) (drop from points) in
    omega arith

pub greatest_whole : (key : ℕ) (points : List ℕ) (from at : ℕ) → from ≤ at → at ≤ length points → max (greatest_of (above key (take at points))) (greatest_of (above key (drop from points))) ≡ greatest_of (above key points)
greatest_whole key points from at low high =
    let n : ℕ = at - from in
    let f : List ℕ → ℕ = λ xs. greatest_of (above key xs) in
    let place : at ≡ from + n = omega arith in
    let front : f (take at points) ≡ max (f (take from points)) (f (chunk from n points)) = ap (λ k. f (take k points)) place ∙ ap f (take-add from n points) ∙ greatest-joined key (take from points) (chunk from n points) in
    let back : f (drop from points) ≡ max (f (chunk from n points)) (f (drop (from + n) points)) = ap f (chunk-drop from n points) ∙ greatest-joined key (chunk from n points) (drop (from + n) points) in
    let all : f points ≡ max (f (take from points)) (f (drop from points)) = ap f (sym (take-append-drop from points)) ∙ greatest-joined key (take from points) (drop from points) in
    omega arith

-- ---- the last eight points, to begin with
last_eight : (points : List ℕ) → 8 ≤ length points → chunk (length points - 8) 8 points ≡ drop (length points - 8) points
last_eight points long = take_all 8 (drop (length points - 8) points) (omega (arith, length-drop (length points - 8) points))

pub least_start : (key : ℕ) (points lanes : List ℕ) → 8 ≤ length points → lanes ≡ above key (chunk (length points - 8) 8 points) → least_of lanes ≡ min (least_of (above key (take 0 points))) (least_of (above key (drop (length points - 8) points)))
least_start key points lanes long is =
    let le = least_of_le (above key (drop (length points - 8) points)) in
    ap least_of is ∙ ap (λ xs. least_of (above key xs)) (last_eight points long) ∙ omega arith

pub greatest_start : (key : ℕ) (points lanes : List ℕ) → 8 ≤ length points → lanes ≡ above key (chunk (length points - 8) 8 points) → greatest_of lanes ≡ max (greatest_of (above key (take 0 points))) (greatest_of (above key (drop (length points - 8) points)))
greatest_start key points lanes long is =
    ap greatest_of is ∙ ap (λ xs. greatest_of (above key xs)) (last_eight points long) ∙ omega arith
