use Rattle.std.proofs.Common.{◌≡◌, ◌≤◌, ◌++◌, ◌-◌, take}
use Rattle.ring_points.specs.Limits.{most_listed_names}
use Rattle.name_service.specs.Stores.{AllPlaced, marked, names_in, rows_of}
use Rattle.name_service.proofs.listing.names_marked.Given as goal

-- the names so far, and those that are marked behind them
abbrev pub invariant-loop-place : goal.invariant-loop-place
invariant-loop-place l = record {
  so_far : l.names.items ++ marked l.mask l.i (take (most_listed_names - l.i) (names_in (rows_of l.place-iterator))) ≡ marked l.mask 0 (take most_listed_names (names_in (rows_of l.fn.rows)));
  few : l.i ≤ most_listed_names;
  placed : AllPlaced l.place-iterator;
}
