-- One interval that may be empty, and lists one after the other.
use Rattle.std.proofs.Common.{◌≡◌, ℕ, ◌^◌, ◌<◌, ◌≤◌, ◌&&◌, ◌||◌, List, ◌++◌, nat_le, length, IsTrue, arith}
use Rattle.std.proofs.lemmas.Bool.Decides.{nat_tests}
use Rattle.std.proofs.lemmas.List.Folds.{list_any-append}
use Rattle.ring_points.specs.declared.interval.Interval.{Interval}
use Rattle.ring_points.specs.Ranges.{in_interval, in_ranges, rises_from}
use Rattle.ring_points.specs.Sets.{span}

pub in_ranges-append : (p : ℕ) (is js : List Interval) → in_ranges p (is ++ js) ≡ (in_ranges p is || in_ranges p js)
in_ranges-append p is js = list_any-append (in_interval p) is js

pub in_ranges-span : (p lo hi : ℕ) → in_ranges p (span lo hi) ≡ (nat_le lo p && nat_le p hi)
in_ranges-span p lo hi = grind (arith, nat_tests)

pub rises_from-span : (lo hi : ℕ) → hi < 2 ^ 64 → IsTrue (rises_from 0 (span lo hi))
rises_from-span lo hi h = grind (arith, nat_tests)

pub length-span : (lo hi : ℕ) → length (span lo hi) ≤ 1
length-span lo hi = grind (arith, nat_tests)
