use Rattle.std.proofs.Common.{◌≡◌, ◌++◌, drop}
use Rattle.std.specs.List.{flat_map}
use Rattle.serve_top.specs.Counts.{entry_gauge}
use Rattle.serve_top.proofs.node_counts.entry_gauges.Given as goal

-- what is found so far, and what is left to look at
abbrev pub invariant-loop-fact : goal.invariant-loop-fact
invariant-loop-fact l =
    l.gauges.items ++ flat_map (entry_gauge l.declared) (drop l.fact-index l.facts) ≡ flat_map (entry_gauge l.declared) l.facts
