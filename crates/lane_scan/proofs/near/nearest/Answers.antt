use Rattle.lane_scan.proofs.Place.{nearest_found}
use Rattle.lane_scan.proofs.near.nearest.Goals as goal

pub returns : goal.returns
returns c = nearest_found c.args.key c.args.points.now c.nearest_point.result c.place_of.result c.nearest_point.ensures c.place_of.ensures
