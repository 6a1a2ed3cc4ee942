-- A key that is written at the front of a block of zeros.
use Rattle.std.proofs.Common.{◌≡◌, ◌-◌, ℕ, drop, replicate}
use Rattle.std.proofs.lemmas.List.{drop-replicate}

pub filled_is : (n : ℕ) → drop n (replicate {A = ℕ} 64 0) ≡ replicate {A = ℕ} (64 - n) 0
filled_is n = drop-replicate n 64 0
