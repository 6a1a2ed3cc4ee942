-- What the reports of a step give up.
use Rattle.std.specs.Prelude.{ℕ, ◌+◌, Bool, true, false, not, ◌==◌, List, [], ◌∷◌, ◌++◌, Option, Some, None, if◌then◌else◌}
use Rattle.std.specs.List.{list_any}
use Rattle.ring_points.specs.declared.interval.Interval.{Interval}
use Rattle.ring_points.specs.Ranges.{fits}
use Rattle.ring_points.specs.Sets.{minus_of}
use Rattle.fabric_terms.specs.declared.report.Report.{Report}
use Rattle.fabric_terms.specs.declared.report.Report.TheVariants as report
use Rattle.frame_hold.specs.declared.losses.GivesUp.{GivesUp}
use Rattle.frame_hold.specs.declared.losses.GivesUp.TheVariants as gives
use Rattle.frame_hold.specs.declared.losses.Loss.{Loss}

-- what a node had before a step: the points that it owned, and the partitions of which it was primary
pub record Had : Type 0 where
  pub owned : List Interval
  pub led : List ℕ

-- the points of the flight that a report begins
abbrev pub part_given : Report → Option (List Interval)
part_given (report.Gave to flight part) = Some part
part_given _ = None

abbrev pub is_nil : List Interval → Bool
is_nil [] = true
is_nil (i ∷ is) = false

-- goes on with what is left of the points when those of a set, if there is one, are taken off; true where more than 32
-- intervals are left
abbrev pub left_without : Option (List Interval) → (List Interval → Bool) → List Interval → Bool
left_without None next points = next points
left_without (Some set) next points = if fits (minus_of points set) then next (minus_of points set) else true

-- something is left of the points when those of the flights that these reports begin are taken off
abbrev pub is_left : List Report → List Interval → Bool
is_left [] points = not (is_nil points)
is_left (r ∷ told) points = left_without (part_given r) (is_left told) points

-- A point was owned that is not owned now, and that no flight of the step has. So it is said, too, where more than 32
-- intervals are left on the way.
abbrev pub loses_points : Had → List Report → List Interval → Bool
loses_points had told ranges = left_without (Some ranges) (is_left told) had.owned

-- the replica of the partition was primary
abbrev pub has_led : Had → ℕ → Bool
has_led had partition = list_any (λ p. p == partition) had.led

-- what a report of a step gives up, if anything
abbrev pub gives_up : Had → List Report → Report → Option GivesUp
gives_up had told (report.Gave to flight part) = Some (gives.Flight to flight)
gives_up had told (report.Promised partition epoch) = if has_led had partition then Some (gives.Epoch partition epoch) else None
gives_up had told (report.Own ranges fence) = if loses_points had told ranges then Some gives.Ranges else None
gives_up had told (report.LeftRing why) = Some gives.Everything
gives_up had told _ = None

abbrev pub loss_at : ℕ → Option GivesUp → List Loss
loss_at place None = []
loss_at place (Some what) = record { place = place; what = what } ∷ []

-- what these reports of a step give up, the first of them at this place
abbrev pub losses_from : Had → List Report → ℕ → List Report → List Loss
losses_from had told place [] = []
losses_from had told place (r ∷ rest) = loss_at place (gives_up had told r) ++ losses_from had told (place + 1) rest

-- what a step gives up, each with the place of its report
abbrev pub given_up : Had → List Report → List Loss
given_up had told = losses_from had told 0 told
