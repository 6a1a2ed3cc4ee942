use Rattle.std.proofs.Common.{◌≡◌, ◌≤◌, ◌<◌, ◌+◌, ◌^◌, ℕ, length, drop}
use Rattle.point_places.specs.Spots.{place_at}
use Rattle.ring_world.specs.Moves.{placed_by}
use Rattle.ring_world.proofs.commit.move_all.Given as goal

-- with the rest all have moved their points, and there is room for the rest
abbrev pub invariant-loop-r : goal.invariant-loop-r
invariant-loop-r l =
    ((p : ℕ) → p < 2 ^ 64 → placed_by l.who (drop l.r-index l.reports) p (place_at l.places p) ≡ placed_by l.who l.reports p (place_at l.initial.places p))
    × (length l.reports ≤ l.r-index + l.places.room)
