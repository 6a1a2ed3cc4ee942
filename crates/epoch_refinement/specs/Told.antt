-- What the machine tells of the reports of a row.
use Rattle.std.specs.Prelude.{◌≡◌, ℕ, List, [], ◌∷◌}
use Rattle.fabric_terms.specs.declared.report.Report.{Report}
use Rattle.fabric_terms.specs.declared.report.Report.TheVariants as report
use Rattle.epoch_machine.specs.Epochs.{number_of}
use Rattle.epoch_machine.specs.Logs.{Entry}
use Rattle.epoch_machine.specs.World.{TellsPromised, TellsAccepted, TellsPrimary, TellsCommitted}
use Rattle.epoch_machine.specs.World as machine
use Rattle.unit_rules.specs.Deeds.{Deed, Keep, Send, Tell}
use Rattle.epoch_refinement.specs.Epochs.{IsReal}

-- a report of the node on top of what was told before, its log being this; others tell the machine nothing
abbrev pub tells : ℕ → List Entry → Report → List machine.Report → List machine.Report
tells node log (report.Promised p e) before = TellsPromised node (number_of e) ∷ before
tells node log (report.Accepted p e lsn) before = TellsAccepted node (number_of e) ∷ before
tells node log (report.IsPrimary p e) before = TellsPrimary node (number_of e) log ∷ before
tells node log (report.Committed p e lsn) before = TellsCommitted node (number_of e) lsn log ∷ before
tells node log _ before = before

-- all reports of these deeds, which are done in their order
abbrev pub tells_all : ℕ → List Entry → List Deed → List machine.Report → List machine.Report
tells_all node log [] before = before
tells_all node log (Keep r ∷ ds) before = tells_all node log ds before
tells_all node log (Send to b ∷ ds) before = tells_all node log ds before
tells_all node log (Tell r ∷ ds) before = tells_all node log ds (tells node log r before)

-- such a report is of the partition, and of an epoch that a configuration can have
abbrev pub IsOf : ℕ → Report → Type 0
IsOf p (report.Promised q e) = (q ≡ p) × IsReal e
IsOf p (report.Accepted q e lsn) = (q ≡ p) × IsReal e
IsOf p (report.IsPrimary q e) = (q ≡ p) × IsReal e
IsOf p (report.Committed q e lsn) = (q ≡ p) × IsReal e
IsOf p _ = Unit {0}
