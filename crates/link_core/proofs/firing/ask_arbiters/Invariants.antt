use Rattle.std.proofs.Common.{◌≡◌, ◌+◌, ◌≤◌, ◌++◌, length}
use Rattle.link_core.specs.Firing.{asked_first}
use Rattle.link_core.proofs.firing.ask_arbiters.Given as goal

abbrev pub invariant-loop-k : goal.invariant-loop-k
invariant-loop-k l = record {
  sent : l.out ≡ l.initial.out ++ asked_first l.k l.link.peer l.link.tally.answers;
  room : length l.out ≤ length l.initial.out + l.k;
}
