use Rattle.std.proofs.Common.{◌≡◌, drop}
use Rattle.open_answers.specs.Endings.{end_at, ends, first_given}
use Rattle.open_answers.proofs.ends.ends.Given as goal

-- what the reports that are left give is what all give
abbrev pub invariant-loop-index : goal.invariant-loop-index
invariant-loop-index l = first_given (end_at l.question l.prepared) l.index (drop l.index l.told) ≡ ends l.question l.prepared l.told
