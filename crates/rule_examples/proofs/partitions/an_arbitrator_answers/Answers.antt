use Rattle.rule_examples.proofs.Computed.{an_arbitrator_answers_in_order, an_arbitrator_prepares}
use Rattle.rule_examples.proofs.partitions.an_arbitrator_answers.Goals as goal

pub returns-clause-in_order : goal.returns-clause-in_order
returns-clause-in_order c = an_arbitrator_answers_in_order

pub returns-clause-prepares : goal.returns-clause-prepares
returns-clause-prepares c = an_arbitrator_prepares
