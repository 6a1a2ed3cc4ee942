-- What links go by.
use Rattle.std.specs.Prelude.{◌≤◌}
use Rattle.ring_points.specs.Limits.{most_arbiters, most_drift, most_grain, most_lease, most_rounds}
use Rattle.link_core.specs.declared.settings.LinkSettings.{LinkSettings}

-- it is in its ranges
pub record AreSoundSettings (s : LinkSettings) : Type 0 where
  pub lease : s.lease ≤ most_lease
  pub longest : s.longest ≤ most_lease
  pub answer : s.answer ≤ most_lease
  pub drift : s.bound.d ≤ most_drift
  pub grain : s.bound.grain ≤ most_grain
  pub arbitrators : s.arbitrators ≤ most_arbiters
  pub rounds : s.rounds ≤ most_rounds
