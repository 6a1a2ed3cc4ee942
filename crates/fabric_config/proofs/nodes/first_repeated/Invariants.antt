use Rattle.std.proofs.Common.{◌≡◌, [], take, drop}
use Rattle.fabric_config.specs.Nodes.{first_repeated}
use Rattle.fabric_config.proofs.nodes.first_repeated.Given as goal

abbrev pub invariant-loop-i : goal.invariant-loop-i
invariant-loop-i l = first_repeated (take l.i l.nodes) (drop l.i l.nodes) ≡ first_repeated [] l.nodes
