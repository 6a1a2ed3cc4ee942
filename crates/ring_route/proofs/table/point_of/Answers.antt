use Rattle.std.proofs.Common.{◌∙◌, ap}
use Rattle.ring_route.proofs.Hops.{point_or, point_is}
use Rattle.ring_route.proofs.table.point_of.Goals as goal

pub returns-in-Some : goal.returns-in-Some
returns-in-Some c = ap point_or c.in-Some.ensures ∙ point_is c.args.node c.args.points.now

pub returns-in-None : goal.returns-in-None
returns-in-None c = ap point_or c.in-None.ensures ∙ point_is c.args.node c.args.points.now
