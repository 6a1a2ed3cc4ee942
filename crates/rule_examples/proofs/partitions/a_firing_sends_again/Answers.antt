use Rattle.rule_examples.proofs.Computed.{a_firing_sends_again_primary, a_firing_sends_again_order}
use Rattle.rule_examples.proofs.partitions.a_firing_sends_again.Goals as goal

pub returns-clause-primary : goal.returns-clause-primary
returns-clause-primary c = a_firing_sends_again_primary

pub returns-clause-order : goal.returns-clause-order
returns-clause-order c = a_firing_sends_again_order
