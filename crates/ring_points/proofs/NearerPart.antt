-- The points that are nearer to one point than to another are a rising list.
use Rattle.std.proofs.Common.{ℕ, ◌+◌, ◌-◌, ◌/◌, ◌%◌, ◌^◌, ◌<◌, ◌≤◌, ◌≡◌, Bool, true, false, cond, List, ◌++◌, IsTrue, refl, arith}
use Rattle.std.specs.Prelude.{nat_le, nat_lt}
use Rattle.std.proofs.lemmas.Bool.Decides.{nat_tests}
use Rattle.ring_points.specs.declared.interval.Interval.{Interval}
use Rattle.ring_points.specs.Distances.{ahead_of}
use Rattle.ring_points.specs.Ranges.{rises_from}
use Rattle.ring_points.specs.Sets.{span, arc, nearer_from, nearer_arc, nearer_part_of}
use Rattle.ring_points.proofs.Meets.{rises_from-meet_of}
use Rattle.ring_points.proofs.Rising.{rises_from-append}
use Rattle.ring_points.proofs.Spans.{in_ranges-span, rises_from-span}

-- an arc that leaves a gap rises
rises_from-gap : (lo hi : ℕ) → hi < 2 ^ 64 → (hi < lo → hi + 2 ≤ lo) → IsTrue (rises_from 0 (arc lo hi))
rises_from-gap lo hi k gap = chosen (nat_le lo hi) refl
  where
    chosen : (b : Bool) → nat_le lo hi ≡ b → IsTrue (rises_from 0 (cond b (span lo hi) (span 0 hi ++ span lo (2 ^ 64 - 1))))
    chosen true e = rises_from-span lo hi k
    chosen false e =
        let wide : hi + 2 ≤ lo = gap (grind (arith, nat_tests)) in
        rises_from-append 0 (span 0 hi) (span lo (2 ^ 64 - 1)) (rises_from-span 0 hi k) (rises_from-span lo (2 ^ 64 - 1) (omega arith))
        (λ p q l n. let front = in_ranges-span p 0 hi in let back = in_ranges-span q lo (2 ^ 64 - 1) in grind (arith, nat_tests))

-- whatever the two points are, the nearer points are an arc
nearer_from_rises : (mine d : ℕ) (tie : Bool) → d < 2 ^ 64 → IsTrue (rises_from 0 (nearer_from mine d tie))
nearer_from_rises mine d true k =
    let lo = (mine + (d + 1) / 2) % 2 ^ 64 in
    let hi = (mine + (2 ^ 64 + d) / 2) % 2 ^ 64 in
    let last : hi < 2 ^ 64 = omega arith in
    rises_from-gap lo hi last (λ lt. omega arith)
nearer_from_rises mine d false k =
    let lo = (mine + (d / 2 + 1)) % 2 ^ 64 in
    let hi = (mine + (2 ^ 64 + d - 1) / 2) % 2 ^ 64 in
    let last : hi < 2 ^ 64 = omega arith in
    rises_from-gap lo hi last (λ lt. omega arith)

pub nearer_part_rises : (is : List Interval) (mine other : ℕ) → IsTrue (rises_from 0 is) → IsTrue (rises_from 0 (nearer_part_of is mine other))
nearer_part_rises is mine other h = rises_from-meet_of 0 0 is (nearer_arc mine other) h (nearer_from_rises mine (ahead_of other mine) (nat_lt other mine) (omega arith))
