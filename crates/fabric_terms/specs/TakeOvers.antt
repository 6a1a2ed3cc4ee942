-- Take-overs, and who was taken over.
use Rattle.std.specs.Prelude.{◌≡◌, ℕ, Bool, true, false, drop}
use Rattle.std.specs.List.{list_any}
use Rattle.ring_points.specs.declared.who.Who.{Who}
use Rattle.ring_points.specs.Whos.{same_who}
use Rattle.fabric_terms.specs.declared.report.Report.{Report}
use Rattle.fabric_terms.specs.declared.report.Report.TheVariants.{TookOver}
use Rattle.fabric_terms.specs.Runs.{Run, Holds}
use Rattle.fabric_terms.specs.Reports.{Told, told}

abbrev pub tells_take_over : Who → Report → Bool
tells_take_over v (TookOver w ranges) = same_who w v
tells_take_over v _ = false

-- somebody has told that it took over from v
abbrev pub was_taken_over : Who → Told → Bool
was_taken_over v reports = list_any (λ told. tells_take_over v told.1) reports

-- from the moment on at which somebody tells that it took over from v, v holds no point
pub record TakenAfterLeave (run : Run) : Type 0 where
  pub holds_nothing : (ago p : ℕ) (v : Who) → was_taken_over v (told (drop ago run)) ≡ true → Holds (drop ago run) v p → ⊥
