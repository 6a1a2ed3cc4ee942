-- Which reports of an instance are written to the log. The reports so far are a list, the newest first.
use Rattle.std.specs.Prelude.{ℕ, ◌==◌, Bool, true, false, not, ◌&&◌, ◌||◌, List, [], ◌∷◌, Option, Some, None}
use lib.Pointwise.{pointwise}
use Rattle.ring_points.specs.declared.interval.Interval.{Interval}
use Rattle.fabric_terms.specs.declared.report.Report.{Report}
use Rattle.fabric_terms.specs.declared.report.Report.TheVariants as report

-- the ranges of an `own`, or else those of the last one before
abbrev pub own_or : Report → Option (List Interval) → Option (List Interval)
own_or (report.Own ranges fence) before = Some ranges
own_or _ before = before

abbrev pub last_own : List Report → Option (List Interval)
last_own [] = None
last_own (r ∷ before) = own_or r (last_own before)

abbrev pub same_ranges : List Interval → List Interval → Bool
same_ranges first second = pointwise (λ a b. (a.lo == b.lo) && (a.hi == b.hi)) first second

abbrev pub repeats : List Interval → Option (List Interval) → Bool
repeats ranges None = false
repeats ranges (Some last) = same_ranges ranges last

-- with these ranges of the last `own`, and these points about which a client has an open question
abbrev pub is_told : Report → Option (List Interval) → (ℕ → Bool) → Bool
is_told (report.Own ranges fence) last asked = not (repeats ranges last)
is_told (report.Found point who) last asked = asked point.0
is_told (report.Nowhere point) last asked = asked point.0
is_told _ last asked = true

-- all reports are written if the log is to have all
abbrev pub is_written : Bool → Report → List Report → (ℕ → Bool) → Bool
is_written all r before asked = all || is_told r (last_own before) asked

-- what is kept of the reports: whether the log is to have all, and the ranges of the last `own`
pub record Choice : Type 0 where
  pub all : Bool
  pub own : Option (List Interval)

abbrev pub choice_after : Bool → List Report → Choice
choice_after all before = record { all = all; own = last_own before }
