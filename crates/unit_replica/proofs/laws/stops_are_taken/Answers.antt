use Rattle.unit_replica.proofs.Kept.{stops_lem}
use Rattle.unit_replica.proofs.laws.stops_are_taken.Goals as goal

pub returns : goal.returns
returns c = stops_lem
