use Rattle.std.proofs.Common.{take}
use Rattle.run_audit.proofs.Readings.{RiseTo}
use Rattle.run_audit.proofs.clocks.rise.Given as goal

abbrev pub invariant-loop-clock : goal.invariant-loop-clock
invariant-loop-clock l = RiseTo (take l.clock-index l.clocks) l.last
