use Rattle.std.proofs.Common.{◌≡◌, ◌++◌, map}
use Rattle.schedule_generate.specs.Course.{node_starts}
use Rattle.schedule_generate.specs.Moves.{events_for}
use Rattle.schedule_generate.specs.Settings.{numbers_from}
use Rattle.schedule_generate.proofs.opening.push_nodes.Given as goal

abbrev pub invariant-loop-node : goal.invariant-loop-node
invariant-loop-node l = events_for l.moves.items ≡ events_for l.fn.moves.items ++ map node_starts (numbers_from 1 l.node)
