-- Counts that rise by one and end at the greatest number of their type.
use Rattle.std.proofs.Common.{arith, ℕ, ◌+◌, ◌^◌, inl, inr}
use Rattle.std.proofs.lemmas.Bool.{cases_lt}
use Rattle.edge_io.specs.Edge.{HasRisen}
use Rattle.edge_io.specs.Plan.{counted}

pub counted_risen : (n : ℕ) → HasRisen n (counted n)
counted_risen n = elim (cases_lt (n + 1) (2 ^ 64)) [ inl room ↦ inl (omega arith) | inr full ↦ inr (omega arith) ]
