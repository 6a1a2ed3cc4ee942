use Rattle.rule_examples.proofs.Named.{asks_too_early}
use Rattle.rule_examples.proofs.partitions.asks_too_early.Goals as goal

pub returns : goal.returns
returns c = asks_too_early
