use Rattle.std.proofs.Common.{◌≡◌, true, take}
use Rattle.ring_rules.specs.Firing.{all_acked}
use Rattle.ring_node.proofs.acked.all_acked.Given as goal

abbrev pub invariant-loop-slot : goal.invariant-loop-slot
invariant-loop-slot l = all_acked l.version (take l.slot-index l.slots) ≡ true
