use Rattle.rule_examples.proofs.Computed.{a_swap_moves}
use Rattle.rule_examples.proofs.partitions.a_swap_moves.Goals as goal

pub returns : goal.returns
returns c = a_swap_moves
