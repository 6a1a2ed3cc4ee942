use Rattle.std.proofs.Common.{◌≡◌, drop}
use Rattle.point_places.specs.Steps.{put_all}
use Rattle.point_places.proofs.segments.put_all.Given as goal

abbrev pub invariant-loop-i : goal.invariant-loop-i
invariant-loop-i l = put_all l.new.items (drop l.i-index l.intervals) l.place ≡ put_all l.fn.old l.intervals l.place
