use Rattle.std.proofs.Common.{◌≡◌, List, [], None, take, reverse}
use Rattle.run_audit.specs.Auditing.{StandsFor}
use Rattle.transcript_audit.specs.Groups.{Group, run_along}
use Rattle.transcript_audit.specs.Places.{Finds, lines_in}
use Rattle.transcript_audit.proofs.verdict.judge_each.Given as goal

-- the auditor stands for the groups so far, and found no breach
abbrev pub invariant-loop-index : goal.invariant-loop-index
invariant-loop-index l =
    (groups : List Group) → StandsFor l.fn.auditor [] → Finds l.bytes l.places groups → StandsFor l.auditor (run_along groups (reverse (take l.index (lines_in l.places)))) × (l.auditor.breach ≡ None)
