use Rattle.std.proofs.Common.{◌≡◌, ◌++◌, drop, map}
use Rattle.serve_top.specs.Counts.{change_gauge}
use Rattle.serve_top.proofs.node_counts.change_gauges.Given as goal

-- what is found so far, and what is left to look at
abbrev pub invariant-loop-fact : goal.invariant-loop-fact
invariant-loop-fact l = l.gauges.items ++ map change_gauge (drop l.fact-index l.facts) ≡ map change_gauge l.facts
