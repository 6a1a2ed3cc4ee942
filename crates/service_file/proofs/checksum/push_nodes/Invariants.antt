use Rattle.std.proofs.Common.{◌≡◌, ◌++◌, take}
use Rattle.std.specs.List.{flat_map}
use Rattle.service_file.specs.Texts.{node_line}
use Rattle.service_file.proofs.checksum.push_nodes.Given as goal

abbrev pub invariant-loop-node : goal.invariant-loop-node
invariant-loop-node l = l.into.items ≡ l.fn.into.items ++ flat_map node_line (take l.node-index l.nodes)
