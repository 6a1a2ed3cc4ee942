use Rattle.std.proofs.Common.{◌≡◌, drop}
use Rattle.open_answers.specs.Endings.{accepted_in, accepted_of, first_given}
use Rattle.open_answers.proofs.ends.accepted_in.Given as goal

-- what the reports that are left give is what all give
abbrev pub invariant-loop-report : goal.invariant-loop-report
invariant-loop-report l = first_given (λ index. accepted_of l.partition) l.report-index (drop l.report-index l.told) ≡ accepted_in l.partition l.told
