use Rattle.std.proofs.Common.{◌≡◌, drop}
use Rattle.point_places.specs.Segments.{spot_in, nowhere}
use Rattle.point_places.proofs.segments.spot_at.Given as goal

abbrev pub invariant-loop-s : goal.invariant-loop-s
invariant-loop-s l = spot_in l.place (drop l.s-index l.segments) l.p ≡ spot_in nowhere l.segments l.p
