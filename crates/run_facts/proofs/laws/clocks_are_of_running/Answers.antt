use Rattle.run_facts.proofs.Clocks.{clocks_are_of_running_lem}
use Rattle.run_facts.proofs.laws.clocks_are_of_running.Goals as goal

pub returns : goal.returns
returns g c = clocks_are_of_running_lem g.A.Above.upper g.A.Above.stays
