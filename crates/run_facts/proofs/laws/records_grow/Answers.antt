use Rattle.run_facts.proofs.Growth.{records_grow_lem}
use Rattle.run_facts.proofs.laws.records_grow.Goals as goal

pub returns : goal.returns
returns g c = records_grow_lem g.A.Above.upper
