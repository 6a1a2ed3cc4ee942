use Rattle.std.proofs.Common.{◌≡◌, None, IsTrue}
use Rattle.ring_points.specs.Ranges.{rises_from}
use Rattle.ring_points.proofs.Answered.{proper_rises}
use Rattle.point_places.specs.Steps.{put_all, tidied}
use Rattle.point_places.proofs.Tidying.{put_cut, put_place}
use Rattle.point_places.proofs.moves.put.Goals as goal

pub returns-clause-cut : goal.returns-clause-cut
returns-clause-cut c =
    let new : c.in_ok-tidy.tidy.items ≡ tidied None (put_all c.args.segments.now c.args.ranges.now c.args.place) =
    cc (c.in_ok-tidy.ensures, c.in_ok-put.ensures, c.deref.ensures.value, c.intervals.ensures.value) in
    let is : IsTrue (rises_from 0 c.args.ranges.now) = proper_rises c.args.ranges.now c.intervals.ensures.proper in
    rw new (put_cut c.args.segments.now c.args.ranges.now c.args.place c.requires is)

pub returns-clause-places : goal.returns-clause-places
returns-clause-places c = λ p l.
    let new : c.in_ok-tidy.tidy.items ≡ tidied None (put_all c.args.segments.now c.args.ranges.now c.args.place) =
    cc (c.in_ok-tidy.ensures, c.in_ok-put.ensures, c.deref.ensures.value, c.intervals.ensures.value) in
    let is : IsTrue (rises_from 0 c.args.ranges.now) = proper_rises c.args.ranges.now c.intervals.ensures.proper in
    rw new (put_place c.args.segments.now c.args.ranges.now c.args.place p c.requires is l)
