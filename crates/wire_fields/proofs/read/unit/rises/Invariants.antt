use Rattle.std.proofs.Common.{◌≡◌, drop}
use Rattle.fabric_terms.specs.Fields.{rises_above}
use Rattle.wire_fields.proofs.read.unit.rises.Given as goal

abbrev pub invariant-loop-node : goal.invariant-loop-node
invariant-loop-node l = rises_above 0 l.members ≡ rises_above l.below (drop l.node-index l.members)
