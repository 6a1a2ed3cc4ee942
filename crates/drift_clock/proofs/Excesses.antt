-- The comparisons by which a Drift keeps its extremes agree with the excesses of any later pair.
use Rattle.std.proofs.Common.{◌≡◌, ℕ, List, [], ◌∷◌, ◌+◌, ◌*◌, ◌-◌, ◌≤◌, arith, ltb-true, ltb-false}
use Rattle.std.proofs.Math.Nat.{mul-sub, mul-le-mul_left}
use Rattle.drift_clock.specs.declared.bound.Bound.{Bound}
use Rattle.std.specs.List.{AllByRecursion}
use Rattle.drift_clock.specs.Within.{Pair, FitsAll}
use Rattle.drift_clock.specs.Extremes.{is_further_behind, is_further_ahead}
use Rattle.drift_clock.specs.Refusals.{fast_excess, slow_excess}
use Rattle.drift_clock.proofs.Greatest.{Orders}

-- neither the time nor the reading of the pair is above that of now
pub record NoLater (now pair : Pair) : Type 0 where
  pub time : pair.0 ≤ now.0
  pub reading : pair.1 ≤ now.1

pub earlier_pairs : (bound : Bound) (now newest : Pair) (older : List Pair) → newest.0 ≤ now.0 → newest.1 ≤ now.1 → FitsAll bound older newest → AllByRecursion (NoLater now) older
earlier_pairs bound now newest [] t r f = tt
earlier_pairs bound now newest (p ∷ ps) t r f =
    (record { time = omega (arith, f.0.times); reading = omega (arith, f.0.readings) }, earlier_pairs bound now newest ps t r f.1)

span : (k now then : ℕ) → then ≤ now → k * (now - then) + k * then ≡ k * now
span k now then h =
    let e : k * (now - then) ≡ k * now - k * then = mul-sub k now then in
    let le : k * then ≤ k * now = mul-le-mul_left k h in
    omega arith

pub fast_orders : (bound : Bound) (now : Pair) → Orders (NoLater now) (is_further_behind bound) (fast_excess bound now)
fast_orders bound now = record {
  above = λ a b pa pb h.
      let k : ℕ = 1000 + bound.d in
      let x = span k now.0 a.0 pa.time in
      let y = span k now.0 b.0 pb.time in
      let lt = ltb-true (k * b.0 + 1000 * a.1) (k * a.0 + 1000 * b.1) h in
      omega arith;
  strictly = λ a b pa pb h pos.
      let k : ℕ = 1000 + bound.d in
      let x = span k now.0 a.0 pa.time in
      let y = span k now.0 b.0 pb.time in
      let lt = ltb-true (k * b.0 + 1000 * a.1) (k * a.0 + 1000 * b.1) h in
      omega arith;
  below = λ a b pa pb h.
      let k : ℕ = 1000 + bound.d in
      let x = span k now.0 a.0 pa.time in
      let y = span k now.0 b.0 pb.time in
      let lt = ltb-false (k * b.0 + 1000 * a.1) (k * a.0 + 1000 * b.1) h in
      omega arith;
}

pub slow_orders : (bound : Bound) (now : Pair) → Orders (NoLater now) (is_further_ahead bound) (slow_excess bound now)
slow_orders bound now = record {
  above = λ a b pa pb h.
      let k : ℕ = 1000 - bound.d in
      let x = span k now.0 a.0 pa.time in
      let y = span k now.0 b.0 pb.time in
      let lt = ltb-true (1000 * b.1 + k * a.0) (1000 * a.1 + k * b.0) h in
      omega arith;
  strictly = λ a b pa pb h pos.
      let k : ℕ = 1000 - bound.d in
      let x = span k now.0 a.0 pa.time in
      let y = span k now.0 b.0 pb.time in
      let lt = ltb-true (1000 * b.1 + k * a.0) (1000 * a.1 + k * b.0) h in
      omega arith;
  below = λ a b pa pb h.
      let k : ℕ = 1000 - bound.d in
      let x = span k now.0 a.0 pa.time in
      let y = span k now.0 b.0 pb.time in
      let lt = ltb-false (1000 * b.1 + k * a.0) (1000 * a.1 + k * b.0) h in
      omega arith;
}
