-- More than 30 doublings make no wait longer.
use Rattle.std.proofs.Common.{arith, ◌≡◌, ℕ, ◌*◌, ◌/◌, ◌^◌, ◌≤◌, min, max, List, ap, inl, inr, sym, ◌∙◌}
use Rattle.std.proofs.Math.Nat.{min-eq_left, min-eq_right, mul-le-mul_left, pow-le-pow_right}
use Rattle.std.proofs.lemmas.Bool.{cases_lt}
use Rattle.fire_pace.specs.News.{Step}
use Rattle.fire_pace.specs.Pace.{Pace, due_after, due_from, last_firing, pace_after, quiet_firings, wait_of}

-- a pace that is doubled so often is above the cap, and a pace that is doubled more often too
both_above : (p cap quiet : ℕ) → 1 ≤ p → cap ≤ 2 ^ 30 → 30 ≤ quiet → min (p * 2 ^ 30) cap ≡ min (p * 2 ^ quiet) cap
both_above p cap quiet one small often =
    let first : cap ≤ p * 2 ^ 30 = omega arith in
    let more : p * 2 ^ 30 ≤ p * 2 ^ quiet = mul-le-mul_left p (pow-le-pow_right (omega arith) often) in
    min-eq_right first ∙ sym (min-eq_right (omega arith))

capped : (p cap quiet : ℕ) → 1 ≤ p → cap ≤ 2 ^ 30 → min (p * 2 ^ (min quiet 30)) cap ≡ min (p * 2 ^ quiet) cap
capped p cap quiet one small = elim (cases_lt quiet 30) [
  | inl few ↦ ap (λ n. min (p * 2 ^ n) cap) (min-eq_left (omega arith))
  | inr often ↦ ap (λ n. min (p * 2 ^ n) cap) (min-eq_right often) ∙ both_above p cap quiet one small often
]

-- the wait of the doublings that are kept is that of all
pub wait_capped : (lease left quiet : ℕ) → lease ≤ 2 ^ 30 → left ≤ lease → wait_of lease left (min quiet 30) ≡ wait_of lease left quiet
wait_capped lease left quiet short within =
    let one : 1 ≤ max 1 (min 5 (lease / 8)) = omega arith in
    let small : max (max 1 (min 5 (lease / 8))) (left / 8) ≤ 2 ^ 30 = omega arith in
    capped (max 1 (min 5 (lease / 8))) (max (max 1 (min 5 (lease / 8))) (left / 8)) quiet one small

-- what is kept says when the next firing is due
pub due_capped : (kept : Pace) (steps : List Step) (lease left : ℕ) → lease ≤ 2 ^ 30 → left ≤ lease → kept ≡ pace_after steps → due_from kept.fired (wait_of lease left kept.doublings) ≡ due_after steps lease left
due_capped kept steps lease left short within is =
    ap (λ (k : Pace). due_from k.fired (wait_of lease left k.doublings)) is
    ∙ ap (due_from (last_firing steps)) (wait_capped lease left (quiet_firings steps) short within)
