use Rattle.std.proofs.Common.{◌≡◌, ◌<◌, ◌^◌, ℕ, IsTrue, take}
use Rattle.std.specs.Prelude.{reverse}
use Rattle.point_places.specs.Segments.{is_cut, place_at}
use Rattle.point_places.specs.Spots.{moved_place}
use Rattle.point_places.proofs.moves.settled.Given as goal

abbrev pub invariant-loop-who : goal.invariant-loop-who
invariant-loop-who l = record {
  cut : IsTrue (is_cut l.new.items);
  places : (p : ℕ) → p < 2 ^ 64 → place_at l.new.items p ≡ moved_place l.segments (reverse (take l.who-index l.moves)) p;
}
