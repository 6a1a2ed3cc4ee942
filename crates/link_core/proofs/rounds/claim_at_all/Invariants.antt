use Rattle.std.proofs.Common.{◌≡◌, ◌++◌}
use Rattle.link_core.specs.Rounds.{claimed_first}
use Rattle.link_core.proofs.rounds.claim_at_all.Given as goal

abbrev pub invariant-loop-k : goal.invariant-loop-k
invariant-loop-k l = l.out ≡ l.initial.out ++ claimed_first l.k l.link
