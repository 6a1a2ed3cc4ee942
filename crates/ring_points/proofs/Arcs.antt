-- Which points are nearer to one point than to another.
use Rattle.std.proofs.Common.{◌≡◌, ◌≢◌, ℕ, ◌+◌, ◌-◌, ◌/◌, ◌%◌, ◌^◌, ◌<◌, ◌≤◌, min, Bool, true, false, ◌&&◌, ◌||◌, ◌==◌, nat_le, nat_lt, cond, List, ◌++◌, IsTrue, refl, sym, ◌∙◌, arith}
use Rattle.std.proofs.lemmas.Bool.{cases_lt}
use Rattle.std.proofs.lemmas.Bool.Decides.{nat_tests}
use Rattle.ring_points.specs.declared.interval.Interval.{Interval}
use Rattle.ring_points.specs.Distances.{ahead_of, distance_of, is_nearer}
use Rattle.ring_points.specs.Ranges.{in_ranges, rises_from}
use Rattle.ring_points.specs.Sets.{span, arc, nearer_from, nearer_arc}
use Rattle.ring_points.proofs.Rising.{rises_from-append}
use Rattle.ring_points.proofs.Spans.{in_ranges-append, in_ranges-span, rises_from-span}

-- how far a stands behind b, as one of two differences
ahead_of-cases : (a b : ℕ) → a < 2 ^ 64 → b < 2 ^ 64 → ahead_of a b ≡ cond (nat_le b a) (a - b) (a + 2 ^ 64 - b)
ahead_of-cases a b h k =
    let cases = cases_lt a b in
    grind (arith, nat_tests)

-- the shorter way round between two points whose difference is g
round : ℕ → ℕ
round g = min g (2 ^ 64 - g)

-- distances seen from a third point m
distance_of-seen : (p o m : ℕ) → p < 2 ^ 64 → o < 2 ^ 64 → m < 2 ^ 64 → distance_of p o ≡ round ((ahead_of p m - ahead_of o m) + (ahead_of o m - ahead_of p m))
unfolding round
distance_of-seen p o m h k l =
    let e1 = ahead_of-cases p o h k in
    let e2 = ahead_of-cases o p k h in
    let e3 = ahead_of-cases p m h l in
    let e4 = ahead_of-cases o m k l in
    seen p o m (ahead_of p o) (ahead_of o p) (ahead_of p m) (ahead_of o m) h k l e1 e2 e3 e4
  where
    seen : (p o m po op pm om : ℕ) → p < 2 ^ 64 → o < 2 ^ 64 → m < 2 ^ 64 → po ≡ cond (nat_le o p) (p - o) (p + 2 ^ 64 - o) → op ≡ cond (nat_le p o) (o - p) (o + 2 ^ 64 - p) → pm ≡ cond (nat_le m p) (p - m) (p + 2 ^ 64 - m) → om ≡ cond (nat_le m o) (o - m) (o + 2 ^ 64 - m) → min po op ≡ min ((pm - om) + (om - pm)) (2 ^ 64 - ((pm - om) + (om - pm)))
    seen p o m po op pm om h k l e1 e2 e3 e4 = grind (arith, nat_tests)

in_ranges-arc : (p lo hi : ℕ) → p < 2 ^ 64 → in_ranges p (arc lo hi) ≡ cond (nat_le lo hi) (nat_le lo p && nat_le p hi) (nat_le p hi || nat_le lo p)
in_ranges-arc p lo hi h =
    let both = in_ranges-append p (span 0 hi) (span lo (2 ^ 64 - 1)) in
    let front = in_ranges-span p 0 hi in
    let back = in_ranges-span p lo (2 ^ 64 - 1) in
    let one = in_ranges-span p lo hi in
    chosen (span lo hi) (span 0 hi ++ span lo (2 ^ 64 - 1)) front back one both (nat_le lo hi)
  where
    chosen : (one both : List Interval) → in_ranges p (span 0 hi) ≡ (nat_le 0 p && nat_le p hi) → in_ranges p (span lo (2 ^ 64 - 1)) ≡ (nat_le lo p && nat_le p (2 ^ 64 - 1)) → in_ranges p one ≡ (nat_le lo p && nat_le p hi) → in_ranges p both ≡ (in_ranges p (span 0 hi) || in_ranges p (span lo (2 ^ 64 - 1))) → (b : Bool) → in_ranges p (cond b one both) ≡ cond b (nat_le lo p && nat_le p hi) (nat_le p hi || nat_le lo p)
    chosen one both e f g k true = g
    chosen one both e f g k false = grind (arith, nat_tests)

-- the arc from x to y points ahead of m
in_ranges-arc_ahead : (p m x y : ℕ) → p < 2 ^ 64 → m < 2 ^ 64 → 0 < x → x ≤ y → y < 2 ^ 64 → in_ranges p (arc ((m + x) % 2 ^ 64) ((m + y) % 2 ^ 64)) ≡ (nat_le x (ahead_of p m) && nat_le (ahead_of p m) y)
in_ranges-arc_ahead p m x y h k a b c =
    let arcs = in_ranges-arc p ((m + x) % 2 ^ 64) ((m + y) % 2 ^ 64) h in
    let cases = ahead_of-cases p m h k in
    arcs ∙ placed ((m + x) % 2 ^ 64) ((m + y) % 2 ^ 64) (ahead_of p m) (turn x (omega arith)) (turn y c) cases
  where
    turn : (z : ℕ) → z < 2 ^ 64 → (m + z) % 2 ^ 64 ≡ cond (nat_lt (m + z) (2 ^ 64)) (m + z) (m + z - 2 ^ 64)
    turn z l = let cases = cases_lt (m + z) (2 ^ 64) in grind (arith, nat_tests)

    placed : (lo hi q : ℕ) → lo ≡ cond (nat_lt (m + x) (2 ^ 64)) (m + x) (m + x - 2 ^ 64) → hi ≡ cond (nat_lt (m + y) (2 ^ 64)) (m + y) (m + y - 2 ^ 64) → q ≡ cond (nat_le m p) (p - m) (p + 2 ^ 64 - m) → cond (nat_le lo hi) (nat_le lo p && nat_le p hi) (nat_le p hi || nat_le lo p) ≡ (nat_le x q && nat_le q y)
    placed lo hi q e f g = grind (arith, nat_tests)

nearer_from-tie : (q d : ℕ) → q < 2 ^ 64 → 0 < d → d < 2 ^ 64 → (nat_le ((d + 1) / 2) q && nat_le q ((2 ^ 64 + d) / 2)) ≡ nat_le (round ((q - d) + (d - q))) (round q)
unfolding round
nearer_from-tie q d h k l = grind (arith, nat_tests)

nearer_from-strict : (q d : ℕ) → q < 2 ^ 64 → 0 < d → d < 2 ^ 64 → (nat_le (d / 2 + 1) q && nat_le q ((2 ^ 64 + d - 1) / 2)) ≡ nat_lt (round ((q - d) + (d - q))) (round q)
unfolding round
nearer_from-strict q d h k l = grind (arith, nat_tests)

-- an arc that misses a point rises
rises_from-arc : (m lo hi : ℕ) → m < 2 ^ 64 → hi < 2 ^ 64 → in_ranges m (arc lo hi) ≡ false → IsTrue (rises_from 0 (arc lo hi))
rises_from-arc m lo hi h k miss =
    chosen (nat_le lo hi) refl (sym (in_ranges-arc m lo hi h) ∙ miss)
  where
    chosen : (b : Bool) → nat_le lo hi ≡ b → cond b (nat_le lo m && nat_le m hi) (nat_le m hi || nat_le lo m) ≡ false → IsTrue (rises_from 0 (cond b (span lo hi) (span 0 hi ++ span lo (2 ^ 64 - 1))))
    chosen true e miss = rises_from-span lo hi k
    chosen false e miss =
        rises_from-append 0 (span 0 hi) (span lo (2 ^ 64 - 1)) (rises_from-span 0 hi k) (rises_from-span lo (2 ^ 64 - 1) (omega arith))
        (λ p q l n.
        let front = in_ranges-span p 0 hi in
        let back = in_ranges-span q lo (2 ^ 64 - 1) in
        grind (arith, nat_tests))

ahead_of-pos : (o m : ℕ) → o < 2 ^ 64 → m < 2 ^ 64 → m ≢ o → 0 < ahead_of o m
ahead_of-pos o m h k n = let e = ahead_of-cases o m h k in grind (arith, nat_tests)

ahead_of-ring : (o m : ℕ) → ahead_of o m < 2 ^ 64
ahead_of-ring o m = omega arith

distance_of-own : (p m : ℕ) → p < 2 ^ 64 → m < 2 ^ 64 → distance_of p m ≡ round (ahead_of p m)
unfolding round
distance_of-own p m h k =
    let e = distance_of-seen p m m h k k in
    let z = ahead_of-cases m m k k in
    zero_apart (ahead_of p m) (ahead_of m m) (distance_of p m) (grind (arith, nat_tests)) e
  where
    zero_apart : (q z d : ℕ) → z ≡ 0 → d ≡ round ((q - z) + (z - q)) → d ≡ round q
    zero_apart q z d e f = grind arith

nearer_with : (tie : Bool) (p mine other : ℕ) → p < 2 ^ 64 → mine < 2 ^ 64 → other < 2 ^ 64 → mine ≢ other → in_ranges p (nearer_from mine (ahead_of other mine) tie) ≡ (nat_lt (distance_of p other) (distance_of p mine) || (distance_of p other == distance_of p mine && tie))
nearer_with true p mine other h k l n =
    let d = ahead_of other mine in
    let some_way = ahead_of-pos other mine l k n in
    let here = in_ranges-arc_ahead p mine ((d + 1) / 2) ((2 ^ 64 + d) / 2) h k (omega arith) (omega arith) (omega arith) in
    let half = nearer_from-tie (ahead_of p mine) d (omega arith) some_way (omega arith) in
    to_tests (distance_of p other) (distance_of p mine) (round ((ahead_of p mine - d) + (d - ahead_of p mine))) (round (ahead_of p mine)) _ (here ∙ half) (distance_of-seen p other mine h l k) (distance_of-own p mine h k)
  where
    to_tests : (a b x y : ℕ) (r : Bool) → r ≡ nat_le x y → a ≡ x → b ≡ y → r ≡ (nat_lt a b || (a == b && true))
    to_tests a b x y r e f g = grind (arith, nat_tests)
nearer_with false p mine other h k l n =
    let d = ahead_of other mine in
    let some_way = ahead_of-pos other mine l k n in
    let here = in_ranges-arc_ahead p mine (d / 2 + 1) ((2 ^ 64 + d - 1) / 2) h k (omega arith) (omega arith) (omega arith) in
    let half = nearer_from-strict (ahead_of p mine) d (omega arith) some_way (omega arith) in
    to_tests (distance_of p other) (distance_of p mine) (round ((ahead_of p mine - d) + (d - ahead_of p mine))) (round (ahead_of p mine)) _ (here ∙ half) (distance_of-seen p other mine h l k) (distance_of-own p mine h k)
  where
    to_tests : (a b x y : ℕ) (r : Bool) → r ≡ nat_lt x y → a ≡ x → b ≡ y → r ≡ (nat_lt a b || (a == b && false))
    to_tests a b x y r e f g = grind (arith, nat_tests)

pub in_ranges-nearer_arc : (p mine other : ℕ) → p < 2 ^ 64 → mine < 2 ^ 64 → other < 2 ^ 64 → mine ≢ other → in_ranges p (nearer_arc mine other) ≡ is_nearer p other mine
in_ranges-nearer_arc p mine other h k l n = nearer_with (nat_lt other mine) p mine other h k l n

pub rises_from-nearer_arc : (mine other : ℕ) → mine < 2 ^ 64 → other < 2 ^ 64 → mine ≢ other → IsTrue (rises_from 0 (nearer_arc mine other))
rises_from-nearer_arc mine other k l n =
    let miss : in_ranges mine (nearer_arc mine other) ≡ false = in_ranges-nearer_arc mine mine other k k l n ∙ not_nearer in
    chosen (nat_lt other mine) miss
  where
    not_nearer : is_nearer mine other mine ≡ false
    not_nearer = let z = ahead_of-cases mine mine k k in let d = ahead_of-cases other mine l k in let e = ahead_of-cases mine other k l in grind (arith, nat_tests)

    chosen : (tie : Bool) → in_ranges mine (nearer_from mine (ahead_of other mine) tie) ≡ false → IsTrue (rises_from 0 (nearer_from mine (ahead_of other mine) tie))
    chosen true miss =
        let last : (mine + (2 ^ 64 + ahead_of other mine) / 2) % 2 ^ 64 < 2 ^ 64 = omega arith in
        rises_from-arc mine _ _ k last miss
    chosen false miss =
        let last : (mine + (2 ^ 64 + ahead_of other mine - 1) / 2) % 2 ^ 64 < 2 ^ 64 = omega arith in
        rises_from-arc mine _ _ k last miss
