use Rattle.std.proofs.Common.{◌≡◌, ◌++◌, drop}
use Rattle.std.specs.List.{flat_map}
use Rattle.status_page.specs.Samples.{partition_sample}
use Rattle.status_page.proofs.family.push_partitions.Given as goal

-- what is written so far, and what is left to write
abbrev pub invariant-loop-gauge : goal.invariant-loop-gauge
invariant-loop-gauge l =
    l.into.items ++ flat_map (partition_sample l.name l.measure) (drop l.gauge-index l.gauges)
    ≡ l.fn.into.items ++ flat_map (partition_sample l.name l.measure) l.gauges
