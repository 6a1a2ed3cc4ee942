-- The example, by computation.
use Rattle.std.proofs.Common.{refl, None}
use Rattle.ring_points.specs.Ranges.{whole_ring}
use Rattle.ring_rules.specs.Starts.{node_started}
use Rattle.cold_start.specs.Example.{TwoHold}
use Rattle.world_rules.specs.Starts.{node_begun_in, started_in}

pub two_hold_lem : TwoHold
unfolding node_begun_in started_in node_started
two_hold_lem = record {
  one = record { reading = 0; owned = record { ranges = whole_ring; fence = None }; runs = refl; own = refl; has = refl; below = tt };
  other = record { reading = 0; owned = record { ranges = whole_ring; fence = None }; runs = refl; own = refl; has = refl; below = tt };
}
