use Rattle.keep_log.specs.Taking.{IsTold, amount_in}
use Rattle.keep_log.proofs.OnTheWay.{IsReading}
use Rattle.keep_log.proofs.read.read_records.Given as goal

abbrev pub invariant-loop-i : goal.invariant-loop-i
invariant-loop-i l = IsTold l.reading × IsReading (λ v. v.items) l.records l.i (amount_in l.reading)
