use Rattle.run_facts.proofs.Tables.{table_is_kept_lem}
use Rattle.run_facts.proofs.laws.table_is_kept.Goals as goal

pub returns : goal.returns
returns g c = table_is_kept_lem g.A.Above.upper g.A.Above.stays
