use Rattle.std.proofs.Common.{◌≡◌, ◌≤◌, ◌++◌, length}
use Rattle.ring_points.specs.Limits.{most_listed_names}
use Rattle.name_service.specs.Stores.{points_in}
use Rattle.name_service.proofs.listing.points_of.Given as goal

-- the points so far, and those to come
abbrev pub invariant-loop-place : goal.invariant-loop-place
invariant-loop-place l = record {
  so_far : l.points.items ++ points_in l.place-iterator ≡ points_in l.fn.rows;
  few : length l.points.items ≤ most_listed_names;
}
