use Rattle.rule_examples.proofs.Named.{a_primary_answers}
use Rattle.rule_examples.proofs.partitions.a_primary_answers_about_names.Goals as goal

pub returns : goal.returns
returns c = a_primary_answers
