use Rattle.std.proofs.Common.{◌≡◌, take}
use Rattle.log_lines.proofs.written.put_intervals.Given as goal

abbrev pub invariant-loop-interval : goal.invariant-loop-interval
invariant-loop-interval l = l.into.items ≡ take l.interval-index l.interval-items
