use Rattle.std.proofs.Common.{◌≡◌, ◌&&◌}
use Rattle.ring_points.specs.Ranges.{in_ranges, fitting}
use Rattle.ring_points.specs.Sets.{meet_of}
use Rattle.ring_points.proofs.Answered.{meet_answer}
use Rattle.ring_points.proofs.Fitting.{ok_from_fitting, points_from_fitting, is_err_from_fitting}
use Rattle.ring_points.proofs.Meets.{in_ranges-meet_of}
use Rattle.ring_points.proofs.ranges.RangeSet.meet.Goals as goal
use Rattle.ring_points.proofs.ranges.RangeSet.meet.Goals.{After-sweep}

answer : (c : After-sweep) → c.sweep.result ≡ fitting (meet_of c.args.self.now c.args.other.now)
answer c =
    let told = rw (c.intervals.ensures.value, c.intervals-2.ensures.value) at c.sweep.ensures in
    meet_answer c.args.self.now c.args.other.now c.sweep.result c.intervals.ensures.proper c.intervals-2.ensures.proper told

pub returns-clause-points : goal.returns-clause-points
returns-clause-points c =
    points_from_fitting c.sweep.result (meet_of c.args.self.now c.args.other.now) (λ p. in_ranges p c.args.self.now && in_ranges p c.args.other.now) (answer c)
    (λ p. in_ranges-meet_of p c.args.self.now c.args.other.now)

pub returns-clause-ok : goal.returns-clause-ok
returns-clause-ok c = ok_from_fitting c.sweep.result (meet_of c.args.self.now c.args.other.now) (answer c)

pub returns-clause-too_many : goal.returns-clause-too_many
returns-clause-too_many c = is_err_from_fitting c.sweep.result (meet_of c.args.self.now c.args.other.now) (answer c)
