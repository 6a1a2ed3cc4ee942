use Rattle.lane_scan.proofs.Place.{finds_the_nearest}
use Rattle.lane_scan.proofs.laws.no_other_is_nearer.Goals as goal

pub returns : goal.returns
returns c = finds_the_nearest
