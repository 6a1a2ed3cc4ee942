use Rattle.run_facts.proofs.Orderly.{last_own_is_held_lem}
use Rattle.run_facts.proofs.laws.last_own_is_held.Goals as goal

pub returns : goal.returns
returns g c = last_own_is_held_lem g.A.Above.upper g.A.Above.stays
