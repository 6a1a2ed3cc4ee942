-- The span is the longest time whose wait ends by the fence.
use Rattle.std.proofs.Common.{ℕ, ◌+◌, ◌*◌, ◌-◌, ◌/◌, ◌<◌, ◌≤◌, arith}
use Rattle.std.proofs.Math.Nat.{le-div_iff_mul-le, le_trans, lt_of_not-le, mul-le-mul_right, not-le_of_lt, add-le-add_iff_right, pos_of_div-pos, zero-mul}
use Rattle.std.specs.Int.{div_ceil}
use Rattle.std.proofs.lemmas.Grind.{div_ceil_times}
use Rattle.drift_clock.specs.declared.bound.Bound.{Bound}
use Rattle.drift_clock.specs.Wait.{wait}
use Rattle.drift_clock.proofs.Waits.{waits_cover}
use Rattle.hold_span.specs.Span.{span}
use Rattle.hold_span.specs.Laws.{SpanEndsBeforeFence, NoLongerSpanIsCovered}

less : (slow c x : ℕ) → 0 < slow → c * slow < x * slow + slow → c ≤ x
less slow c x pos h = grind arith

-- what fits into the quotient, rounded down, comes back rounded up
back : (fast slow x left : ℕ) → 0 < fast → 0 < slow → x ≤ left * slow / fast → div_ceil (x * fast) slow ≤ left
back fast slow x left quick late fits =
    let a : x * fast ≤ left * slow = (le-div_iff_mul-le quick).0 fits in
    let b : div_ceil (x * fast) slow * slow < x * fast + slow = (div_ceil_times (x * fast) slow late).1 in
    less slow (div_ceil (x * fast) slow) left late (omega arith)

positive : (left slow fast : ℕ) → 0 < left * slow / fast → 0 < left
positive left slow fast some = let p : 0 < left * slow = pos_of_div-pos fast some in grind (arith, zero-mul slow)

-- the wait for the span is over by the fence
covered : (bound : Bound) (fence now : ℕ) → bound.d < 1000 → 0 < span bound fence now → now + wait bound (span bound fence now) ≤ fence
covered bound fence now small some =
    let left : ℕ = fence - now - bound.grain in
    let x : ℕ = span bound fence now in
    let fits : x + bound.grain ≤ left * (1000 - bound.d) / (1000 + bound.d) = omega arith in
    let ends : div_ceil ((x + bound.grain) * (1000 + bound.d)) (1000 - bound.d) ≤ left = back (1000 + bound.d) (1000 - bound.d) (x + bound.grain) left (omega arith) (omega arith) fits in
    let room : 0 < left = positive left (1000 - bound.d) (1000 + bound.d) (omega arith) in
    let all : wait bound x ≤ left + bound.grain = (add-le-add_iff_right bound.grain).1 ends in
    omega arith

-- a node whose fence has come has waited for the whole span by its clock
pub spans_end : SpanEndsBeforeFence
spans_end bound fence asked acting read then small parent within node order before =
    let some : 0 < span bound fence read.1 = omega (arith, parent.readings) in
    let c : read.1 + wait bound (span bound fence read.1) ≤ fence = covered bound fence read.1 small some in
    let late : fence ≤ then.1 → asked.1 + span bound fence read.1 ≤ acting.1 =
    λ f. waits_cover bound (span bound fence read.1) read then asked acting small node (le_trans c f) parent order before in
    lt_of_not-le (λ f. not-le_of_lt within (late f))

-- a wait that ends by the fence is for what fits into the quotient
fitting : (fast slow x left : ℕ) → 0 < fast → 0 < slow → div_ceil (x * fast) slow ≤ left → x ≤ left * slow / fast
fitting fast slow x left quick late ends =
    let a : x * fast ≤ div_ceil (x * fast) slow * slow = (div_ceil_times (x * fast) slow late).0 in
    let b : div_ceil (x * fast) slow * slow ≤ left * slow = mul-le-mul_right slow ends in
    (le-div_iff_mul-le quick).1 (le_trans a b)

pub none_longer : NoLongerSpanIsCovered
none_longer bound fence now x small left more =
    let fast : ℕ = 1000 + bound.d in
    let slow : ℕ = 1000 - bound.d in
    let fits : now + wait bound x ≤ fence → x ≤ span bound fence now =
    λ f. let e : x + bound.grain ≤ (fence - now - bound.grain) * slow / fast = fitting fast slow (x + bound.grain) (fence - now - bound.grain) (omega arith) (omega arith) (omega arith) in omega arith in
    lt_of_not-le (λ f. not-le_of_lt more (fits f))
