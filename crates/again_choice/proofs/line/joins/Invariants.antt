use Rattle.std.proofs.Common.{◌≡◌, map, take}
use Rattle.serde_json.specs.View.{view}
use Rattle.again_choice.specs.Lines.{whole}
use Rattle.again_choice.proofs.line.joins.Given as goal

-- the nodes so far
abbrev pub invariant-loop-node : goal.invariant-loop-node
invariant-loop-node l = map view l.list.items ≡ map whole (take l.node-index l.nodes)
