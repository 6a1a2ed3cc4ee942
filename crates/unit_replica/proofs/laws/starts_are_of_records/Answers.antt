use Rattle.unit_replica.proofs.Kept.{starts_lem}
use Rattle.unit_replica.proofs.laws.starts_are_of_records.Goals as goal

pub returns : goal.returns
returns c = starts_lem
