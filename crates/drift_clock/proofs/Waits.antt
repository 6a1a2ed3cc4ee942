-- A wait by one clock covers the time on every other.
use Rattle.std.proofs.Common.{ℕ, ◌+◌, ◌*◌, ◌-◌, ◌<◌, ◌≤◌, arith}
use Rattle.std.proofs.Math.Nat.{mul-le-mul_left}
use Rattle.std.specs.Int.{div_ceil}
use Rattle.std.proofs.lemmas.Grind.{div_ceil_times}
use Rattle.drift_clock.specs.Laws.{WaitCovers}

cancel : (fast x y : ℕ) → 0 < fast → fast * x ≤ fast * y → x ≤ y
cancel fast x y pos h = grind arith

-- in `time` ticks the fastest clock advances by at most q, and the slowest by at least y, both in thousandths
slopes : (fast slow q x time y : ℕ) → 0 < fast → 1000 * q ≤ fast * time → slow * time ≤ 1000 * y → x * fast ≤ q * slow → x ≤ y
slopes fast slow q x time y pos quick late covered =
    let a : slow * (1000 * q) ≤ slow * (fast * time) = mul-le-mul_left slow quick in
    let b : fast * (slow * time) ≤ fast * (1000 * y) = mul-le-mul_left fast late in
    let k : fast * x ≤ fast * y = omega arith in
    cancel fast x y pos k

pub waits_cover : WaitCovers
waits_cover bound x began ripe promised over small quick waited late before after =
    let fast : ℕ = 1000 + bound.d in
    let slow : ℕ = 1000 - bound.d in
    let q : ℕ = div_ceil ((x + bound.grain) * fast) slow in
    let covered : (x + bound.grain) * fast ≤ q * slow = (div_ceil_times ((x + bound.grain) * fast) slow (omega arith)).0 in
    let a : 1000 * q ≤ fast * (ripe.0 - began.0) = omega arith in
    let m : slow * (ripe.0 - began.0) ≤ slow * (over.0 - promised.0) = mul-le-mul_left slow (omega arith) in
    let b : slow * (ripe.0 - began.0) ≤ 1000 * (over.1 - promised.1 + bound.grain) = omega arith in
    let r : x + bound.grain ≤ over.1 - promised.1 + bound.grain = slopes fast slow q (x + bound.grain) (ripe.0 - began.0) (over.1 - promised.1 + bound.grain) (omega arith) a b covered in
    omega arith
