-- What a tally has counted of a history.
use Rattle.std.specs.Prelude.{◌≡◌, ℕ, List, [], Option, Some, None}
use Rattle.fabric_terms.specs.declared.report.Report.{Report}
use Rattle.fabric_terms.specs.Places.{tells_leave}
use Rattle.ring_world.specs.declared.world.Acted.{Acted}
use Rattle.world_rules.specs.Runs.{History}
use Rattle.schedule_generate.specs.Settings.{generated_config}
use Rattle.schedule_generate.specs.Texts.{is_take_over, told_of}
use Rattle.schedule_generate.specs.declared.summary.DrillCounts.{DrillCounts}

-- the reports of what an actor did
abbrev pub reports_in : Option Acted → List Report
reports_in None = []
reports_in (Some acted) = acted.reports

-- the take-overs and the leaves of the run
pub record Counts (a : DrillCounts) (n : ℕ) (h : History) : Type 0 where
  pub took_over : a.took_over ≡ told_of is_take_over (generated_config n) h
  pub left : a.left ≡ told_of tells_leave (generated_config n) h
