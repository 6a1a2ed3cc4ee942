use Rattle.std.proofs.Common.{◌≡◌, ◌≤◌, length}
use Rattle.reconfig_phases.proofs.Voted.{awaited_to}
use Rattle.reconfig_phases.proofs.vote.VotePhase.awaited.Given as goal

abbrev pub invariant-loop-arbitrator : goal.invariant-loop-arbitrator
invariant-loop-arbitrator l = record {
  so_far : l.actors.items ≡ awaited_to l.self-inside.votes l.arbitrator;
  few : length l.actors.items ≤ l.arbitrator;
}
