-- Masks that mark partitions.
use Rattle.std.specs.Prelude.{◌≡◌, ℕ, ◌*◌, ◌<◌, ◌≤◌, ◌↔◌, List, length, slice_index, IsTrue}
use Rattle.lane_scan.specs.Masks.{bit_of}
use Rattle.ring_points.specs.declared.interval.Interval.{Interval}
use Rattle.failover_units.specs.Limits.{word_bits}
use Rattle.failover_units.specs.Units.{point_of, is_in}

-- the mask has a bit for each partition, and it is 1 for those whose points are in the range
pub record Marks (range : Interval) (partitions mask : List ℕ) : Type 0 where
  pub room : length partitions ≤ word_bits * length mask
  pub each : (i : ℕ) → i < length partitions → (bit_of mask i ≡ 1) ↔ IsTrue (is_in range (point_of (slice_index partitions i)))
