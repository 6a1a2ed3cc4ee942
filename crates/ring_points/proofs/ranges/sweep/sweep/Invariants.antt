use Rattle.std.proofs.Common.{◌≡◌, ℕ, ◌-◌, ◌^◌, ◌<◌, ◌≤◌, IsTrue}
use Rattle.ring_points.specs.Kept.{IsSwept}
use Rattle.ring_points.specs.Sweeps.{is_kept, is_ahead}
use Rattle.ring_points.proofs.ranges.sweep.sweep.Given as goal

-- the rest is ahead of the point, what stood before it is in what was kept
abbrev pub invariant-loop-kept : goal.invariant-loop-kept
invariant-loop-kept l = record {
  ring : l.at < 2 ^ 64;
  first : IsTrue (is_ahead l.at l.rest.first.now);
  second : IsTrue (is_ahead l.at l.rest.second.now);
  without : IsTrue (is_ahead l.at l.rest.without.now);
  ahead : (p : ℕ) → l.at ≤ p → is_kept l.rest.rule l.rest.first.now l.rest.second.now l.rest.without.now p ≡ is_kept l.sets.rule l.sets.first.now l.sets.second.now l.sets.without.now p;
  swept : IsSwept (is_kept l.sets.rule l.sets.first.now l.sets.second.now l.sets.without.now) l.kept l.at;
}

abbrev pub decreases-loop-kept : goal.decreases-loop-kept
decreases-loop-kept l = 2 ^ 64 - l.at
