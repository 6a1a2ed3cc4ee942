use Rattle.std.proofs.Common.{◌≡◌, ◌||◌, ◌&&◌, not}
use Rattle.ring_points.specs.Ranges.{in_ranges, fitting}
use Rattle.ring_points.specs.Sets.{union_of, minus_of}
use Rattle.ring_points.proofs.Answered.{union_without_answer, in_ranges-union_without}
use Rattle.ring_points.proofs.Fitting.{ok_from_fitting, points_from_fitting, is_err_from_fitting}
use Rattle.ring_points.proofs.ranges.RangeSet.union_without.Goals as goal
use Rattle.ring_points.proofs.ranges.RangeSet.union_without.Goals.{After-sweep}

answer : (c : After-sweep) → c.sweep.result ≡ fitting (minus_of (union_of c.args.self.now c.args.other.now) c.args.without.now)
answer c =
    let told = rw (c.intervals.ensures.value, c.intervals-2.ensures.value, c.intervals-3.ensures.value) at c.sweep.ensures in
    union_without_answer c.args.self.now c.args.other.now c.args.without.now c.sweep.result c.intervals.ensures.proper c.intervals-2.ensures.proper c.intervals-3.ensures.proper told

pub returns-clause-points : goal.returns-clause-points
returns-clause-points c =
    points_from_fitting c.sweep.result (minus_of (union_of c.args.self.now c.args.other.now) c.args.without.now)
    (λ p. (in_ranges p c.args.self.now || in_ranges p c.args.other.now) && not (in_ranges p c.args.without.now)) (answer c)
    (λ p. in_ranges-union_without p c.args.self.now c.args.other.now c.args.without.now c.intervals.ensures.proper c.intervals-2.ensures.proper c.intervals-3.ensures.proper)

pub returns-clause-ok : goal.returns-clause-ok
returns-clause-ok c = ok_from_fitting c.sweep.result (minus_of (union_of c.args.self.now c.args.other.now) c.args.without.now) (answer c)

pub returns-clause-too_many : goal.returns-clause-too_many
returns-clause-too_many c = is_err_from_fitting c.sweep.result (minus_of (union_of c.args.self.now c.args.other.now) c.args.without.now) (answer c)
