-- No wait is shorter than a pace, and none is longer than an eighth of the lease.
use Rattle.std.proofs.Common.{arith, ℕ, ◌+◌, ◌*◌, ◌/◌, ◌^◌, ◌≤◌, min, max, Some, None, Option}
use Rattle.std.proofs.Math.Nat.{mul-le-mul_left}
use Rattle.std.proofs.lemmas.Nat.{pow_pos}
use Rattle.std.specs.Prelude.{IfSome, List}
use Rattle.fire_pace.specs.News.{Step}
use Rattle.fire_pace.specs.Pace.{due_after, due_from, last_firing, pace, quiet_firings, wait_of}

at_least : (p cap quiet : ℕ) → p ≤ cap → p ≤ min (p * 2 ^ quiet) cap
at_least p cap quiet above =
    let once : p * 1 ≤ p * 2 ^ quiet = mul-le-mul_left p (omega (arith, pow_pos quiet)) in
    omega arith

within_from : (last : Option ℕ) (p wait most : ℕ) → p ≤ wait → wait ≤ most → IfSome last (λ fired. (fired + p ≤ due_from last wait) × (due_from last wait ≤ fired + most))
within_from None p wait most least below = tt
within_from (Some fired) p wait most least below = (omega arith, omega arith)

pub due_within : (steps : List Step) (lease left : ℕ) → 10 ≤ lease → left ≤ lease → IfSome (last_firing steps) (λ last. (last + pace lease ≤ due_after steps lease left) × (due_after steps lease left ≤ last + lease / 8))
due_within steps lease left long within =
    within_from (last_firing steps) (pace lease) (wait_of lease left (quiet_firings steps)) (lease / 8)
    (at_least (pace lease) (max (pace lease) (left / 8)) (quiet_firings steps) (omega arith))
    (omega arith)
