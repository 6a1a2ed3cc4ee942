use Rattle.std.proofs.Common.{◌≡◌, take}
use Rattle.sched_text.proofs.event_line.tick.copy_of.Given as goal

abbrev pub invariant-loop-node : goal.invariant-loop-node
invariant-loop-node l = l.readings ≡ take l.node-index l.pairs
