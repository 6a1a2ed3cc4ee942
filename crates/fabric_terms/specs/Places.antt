-- Where each point of the ring is: with an instance, or on its way. Reports alone move it.
use Rattle.std.specs.Prelude.{◌≡◌, ℕ, ◌^◌, ◌<◌, ◌⊎◌, Bool, true, false, ◌&&◌, ◌==◌, [], ◌∷◌, Some, drop, if◌then◌else◌}
use Rattle.std.specs.List.{list_any}
use Rattle.ring_points.specs.declared.who.Who.{Who}
use Rattle.ring_points.specs.Ranges.{in_ranges}
use Rattle.ring_points.specs.Whos.{same_who}
use Rattle.fabric_terms.specs.declared.report.Report.{Report}
use Rattle.fabric_terms.specs.declared.report.Report.TheVariants.{Gave, Took, Returned, TookOver, LeftRing}
use Rattle.fabric_terms.specs.Runs.{Run, Owned, IsBelow, clocks_of, reading_of, own_of}
use Rattle.fabric_terms.specs.Reports.{Told, told}

pub data Place : Type 0 where
  With : (who : Who) → Place
  Flying : (giver : Who) → (number : ℕ) → (receiver : Who) → Place

-- the place of a point of these ranges after a move, and of another as before
abbrev pub moved_to : Place → Bool → Place → Place
moved_to new true old = new
moved_to new false old = old

-- the place of a point after a report of x
abbrev pub place_after : Who → Report → ℕ → Place → Place
place_after x (Gave y number ranges) p old = moved_to (Flying x number y) (in_ranges p ranges) old
place_after x (Took y number ranges) p old = moved_to (With x) (in_ranges p ranges) old
place_after x (Returned y number ranges) p old = moved_to (With x) (in_ranges p ranges) old
place_after x (TookOver v ranges) p old = moved_to (With x) (in_ranges p ranges) old
place_after x _ p old = old

-- All points begin with the first instance, whether it has started or not.
abbrev pub place_of : Who → Told → ℕ → Place
place_of first [] p = With first
place_of first (told ∷ before) p = place_after told.0 told.1 p (place_of first before p)

abbrev pub tells_leave : Report → Bool
tells_leave (LeftRing why) = true
tells_leave _ = false

abbrev pub has_left : Who → Told → Bool
has_left w reports = list_any (λ told. if same_who told.0 w then tells_leave told.1 else false) reports

-- it runs, has not left, and its reading is below the fence of its last Own
pub record IsLive (run : Run) (w : Who) (owned : Owned) : Type 0 where
  pub reading : ℕ
  pub runs : reading_of w (clocks_of run) ≡ Some reading
  pub own : own_of w run ≡ Some owned
  pub stays : has_left w (told run) ≡ false
  pub below : IsBelow reading owned.fence

-- A report takes its points from where they are.
abbrev pub TakesFrom : Who → Report → (ℕ → Place) → Type 0
TakesFrom x (Gave y number ranges) place = (p : ℕ) → in_ranges p ranges ≡ true → place p ≡ With x
TakesFrom x (Took y number ranges) place = (p : ℕ) → (in_ranges p ranges ≡ true → place p ≡ Flying y number x) × (place p ≡ Flying y number x → in_ranges p ranges ≡ true)
TakesFrom x (Returned y number ranges) place = (p : ℕ) → (in_ranges p ranges ≡ true → place p ≡ Flying x number y) × (place p ≡ Flying x number y → in_ranges p ranges ≡ true)
TakesFrom x (TookOver v ranges) place = (p : ℕ) → in_ranges p ranges ≡ true → (place p ≡ With v) ⊎ ((number : ℕ) × (place p ≡ Flying x number v))
TakesFrom x _ place = Unit {0}

-- a report of w says that it gave the flight of this number, and w is x
abbrev pub gave_number : Who → ℕ → Who → Report → Bool
gave_number x number w (Gave y n ranges) = same_who w x && n == number
gave_number x number w _ = false

-- Points stay where they are told to be: what a live instance owns is exactly what is placed with it; each move takes
-- its points from where they are; and no instance uses a flight's number twice.
pub record PlaceKept (first : Who) (run : Run) : Type 0 where
  pub owned : (ago p : ℕ) (w : Who) (o : Owned) → IsLive (drop ago run) w o → p < 2 ^ 64
      → (in_ranges p o.ranges ≡ true → place_of first (told (drop ago run)) p ≡ With w) × (place_of first (told (drop ago run)) p ≡ With w → in_ranges p o.ranges ≡ true)
  pub moves : (newer : ℕ) (x : Who) (r : Report) (before : Told) → drop newer (told run) ≡ (x, r) ∷ before → TakesFrom x r (place_of first before)
  pub numbers : (newer number : ℕ) (x : Who) (r : Report) (before : Told) → drop newer (told run) ≡ (x, r) ∷ before → gave_number x number x r ≡ true → list_any (λ told. gave_number x number told.0 told.1) before ≡ false
