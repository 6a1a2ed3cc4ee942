-- Each choice is one after some reports.
use Rattle.std.proofs.Common.{◌≡◌, Bool, List, [], ◌∷◌, Option, Some, None, refl}
use Rattle.ring_points.specs.declared.interval.Interval.{Interval}
use Rattle.fabric_terms.specs.declared.report.Report.{Report}
use Rattle.fabric_terms.specs.declared.report.Report.TheVariants as report
use Rattle.log_lines.specs.Reports.{Choice, choice_after, last_own}

-- none, or one `own` with these ranges
abbrev pub before_of : Option (List Interval) → List Report
before_of None = []
before_of (Some ranges) = report.Own ranges None ∷ []

pub last_own_of : (own : Option (List Interval)) → last_own (before_of own) ≡ own
last_own_of None = refl
last_own_of (Some ranges) = refl

is_after : (all : Bool) (own : Option (List Interval)) → (let choice : Choice = record { all = all; own = own } in choice ≡ choice_after all (before_of own))
is_after all None = refl
is_after all (Some ranges) = refl

pub choice_is : (choice : Choice) → choice ≡ choice_after choice.all (before_of choice.own)
choice_is choice = is_after choice.all choice.own
