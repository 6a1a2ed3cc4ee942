use Rattle.std.proofs.Common.{◌∙◌, sym}
use Rattle.ring_node.proofs.Alike.{ranges_alike}
use Rattle.ring_node.proofs.ownership.keep_ranges.Goals as goal

pub returns-then-same_ranges : goal.returns-then-same_ranges
returns-then-same_ranges c =
    sym c.intervals.ensures.value ∙ ranges_alike c.intervals.result.now c.intervals-2.result.now (cc (c.if-same_ranges.ensures)) ∙ c.intervals-2.ensures.value
