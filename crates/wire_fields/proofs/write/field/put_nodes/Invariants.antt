use Rattle.std.proofs.Common.{◌≡◌, ◌+◌, ◌*◌, take}
use Rattle.std.specs.List.{flat_map}
use Rattle.wire_fields.specs.Texts.{number_bytes}
use Rattle.wire_fields.specs.Writers.{Puts}
use Rattle.wire_fields.proofs.write.field.put_nodes.Given as goal

abbrev pub invariant-loop-node : goal.invariant-loop-node
invariant-loop-node l =
    (l.end ≡ l.fn.at + 2 * l.node-index) × Puts (flat_map (number_bytes 2) (take l.node-index l.nodes)) l.fn.into l.fn.at l.into l.end
