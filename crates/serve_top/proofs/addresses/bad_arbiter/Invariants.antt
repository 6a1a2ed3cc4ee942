use Rattle.std.proofs.Common.{ℕ, List, Option, drop, map}
use Rattle.serve_top.specs.Addresses.{FindsBad}
use Rattle.serve_top.proofs.addresses.bad_arbiter.Given as goal

-- what is found in the addresses that are left is what is found in all
abbrev pub invariant-loop-arbiter : goal.invariant-loop-arbiter
invariant-loop-arbiter l =
    (found : Option (List ℕ)) → FindsBad (map (λ a. a.1) (drop l.arbiter-index l.arbiters)) found → FindsBad (map (λ a. a.1) l.arbiters) found
