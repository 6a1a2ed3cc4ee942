use Rattle.schedule_writes.proofs.OneOutput.{one_output_lem}
use Rattle.schedule_writes.proofs.laws.one_output.Goals as goal

pub returns : goal.returns
returns c = one_output_lem
