-- What a manager reports is nothing to the machines.
use Rattle.std.proofs.Common.{◌≡◌, ℕ, List, [], ◌∷◌, refl, ap, ◌∙◌}
use Rattle.fabric_terms.specs.declared.report.Report.{Report}
use Rattle.fabric_terms.specs.declared.report.Report.TheVariants as report
use Rattle.unit_rules.specs.Deeds.{Deed, Keep, Send, Tell}
use Rattle.replica_records.proofs.ManagerDeeds.{IsEnding, Manages}
use Rattle.epoch_machine.specs.Logs.{Entry}
use Rattle.epoch_machine.specs.World as machine
use Rattle.epoch_refinement.specs.Told.{tells, tells_all}

ends_quiet : (node : ℕ) (log : List Entry) (r : Report) (before : List machine.Report) → IsEnding r → tells node log r before ≡ before
ends_quiet node log (report.Promised p e) before h = absurd h
ends_quiet node log (report.Accepted p e lsn) before h = absurd h
ends_quiet node log (report.IsPrimary p e) before h = absurd h
ends_quiet node log (report.Committed p e lsn) before h = absurd h
ends_quiet node log r before h = refl

pub managed_quiet : (ds : List Deed) → Manages ds → (node : ℕ) (log : List Entry) (before : List machine.Report) → tells_all node log ds before ≡ before
managed_quiet [] h node log before = refl
managed_quiet (Keep r ∷ ds) h node log before = absurd h
managed_quiet (Send to b ∷ ds) h node log before = managed_quiet ds h node log before
managed_quiet (Tell r ∷ ds) h node log before = ap (tells_all node log ds) (ends_quiet node log r before h.0) ∙ managed_quiet ds h.1 node log before
