use Rattle.schedule_rules.proofs.OneOutput.{one_output_lem}
use Rattle.schedule_rules.proofs.laws.one_output.Goals as goal

pub returns : goal.returns
returns c = one_output_lem
