use Rattle.run_facts.proofs.Orderly.{instances_are_counted_lem}
use Rattle.run_facts.proofs.laws.instances_are_counted.Goals as goal

pub returns : goal.returns
returns g c = instances_are_counted_lem g.A.Above.upper g.A.Above.stays
