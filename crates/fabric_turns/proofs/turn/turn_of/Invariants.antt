use Rattle.fabric_turns.proofs.Windows.{Passed}
use Rattle.fabric_turns.proofs.turn.turn_of.Given as goal

abbrev pub invariant-loop-end : goal.invariant-loop-end
invariant-loop-end l = Passed l.orders l.number l.first l.end
