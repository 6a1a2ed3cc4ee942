use Rattle.std.proofs.Common.{take}
use Rattle.run_audit.specs.Overlaps.{Among}
use Rattle.run_audit.specs.Victims.{IsLeastVictim, IsVictim}
use Rattle.run_audit.proofs.victim.first_victim.Given as goal

abbrev pub invariant-loop-holder : goal.invariant-loop-holder
invariant-loop-holder l = IsLeastVictim (Among (take l.holder-index l.all) (IsVictim l.taken)) l.best
