-- What is true of the values that a Drift keeps.
use Rattle.std.specs.Prelude.{◌≤◌}
use Rattle.drift_clock.specs.declared.bound.Bound.{Bound}
use Rattle.ring_points.specs.declared.limits.TheConstants.{MAX_DRIFT, MAX_GRAIN, MAX_READING}
use Rattle.drift_clock.specs.declared.bound.TheConstants.{MAX_TRUE_TIME}
use Rattle.drift_clock.specs.Within.{Pair}

-- all is within the limits, and the latest pair is no earlier than the two extremes
pub record IsInReach (bound : Bound) (latest behind ahead : Pair) : Type 0 where
  pub drift : bound.d ≤ MAX_DRIFT
  pub grain : bound.grain ≤ MAX_GRAIN
  pub time : latest.0 ≤ MAX_TRUE_TIME
  pub reading : latest.1 ≤ MAX_READING
  pub behind_time : behind.0 ≤ latest.0
  pub behind_reading : behind.1 ≤ latest.1
  pub ahead_time : ahead.0 ≤ latest.0
  pub ahead_reading : ahead.1 ≤ latest.1
