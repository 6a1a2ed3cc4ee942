-- The reports of a run, the newest first, each with who told it.
use Rattle.std.specs.Prelude.{List, [], ◌∷◌, Option, Some, None}
use Rattle.ring_points.specs.declared.who.Who.{Who}
use Rattle.fabric_terms.specs.declared.report.Report.{Report}
use Rattle.fabric_terms.specs.Runs.{Entry, Run}

abbrev pub Told : Type 0
Told = List (Who × Report)

-- the reports of one step, on top of what was told before
abbrev pub told_on : Who → List Report → Told → Told
told_on who [] before = before
told_on who (r ∷ rs) before = told_on who rs ((who, r) ∷ before)

abbrev pub told_in : Option Entry → Told → Told
told_in None before = before
told_in (Some e) before = told_on e.who e.reports before

-- all that was told
abbrev pub told : Run → Told
told [] = []
told (m ∷ ms) = told_in m.entry (told ms)
