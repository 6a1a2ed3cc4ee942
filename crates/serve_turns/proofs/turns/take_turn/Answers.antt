use Rattle.std.proofs.Common.{sym, ◌∙◌}
use Rattle.serve_turns.proofs.turns.take_turn.Goals as goal

pub node_turn-requires-clause-node : goal.node_turn-requires-clause-node
node_turn-requires-clause-node g c = sym c.is_node.ensures ∙ c.if-is_node.true

pub arbiter_turn-requires-clause-arbiter : goal.arbiter_turn-requires-clause-arbiter
arbiter_turn-requires-clause-arbiter g c = sym c.is_node.ensures ∙ c.if-is_node.false
