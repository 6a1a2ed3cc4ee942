use Rattle.std.proofs.Common.{◌≡◌, drop, filter}
use Rattle.std.specs.Prelude.{max}
use Rattle.unit_rules.specs.Progress.{greatest, is_confirmed, most_confirmed}
use Rattle.unit_replica.proofs.progress.most_confirmed.Given as goal

-- the greatest of what was looked at, and of what is still to be looked at
abbrev pub invariant-loop-lsn : goal.invariant-loop-lsn
invariant-loop-lsn l = max l.most (greatest (filter (is_confirmed l.confirmed) (drop l.lsn-index l.confirmed))) ≡ most_confirmed l.confirmed
