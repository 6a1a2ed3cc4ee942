use Rattle.std.proofs.Common.{◌≡◌, ◌++◌, drop}
use Rattle.std.specs.Prelude.{codes}
use Rattle.std.specs.List.{flat_map}
use Rattle.text_fields.specs.Intervals.{interval_text, ranges_text}
use Rattle.text_fields.specs.Texts.{Keeps}
use Rattle.text_fields.proofs.interval.push_ranges.Given as goal

-- what is written so far, and what is left to write
abbrev pub invariant-loop-i : goal.invariant-loop-i
invariant-loop-i l =
    (l.into.items ++ flat_map (λ i. codes "," ++ interval_text i) (drop l.i-index l.more) ≡ l.fn.into.items ++ ranges_text l.ranges)
    × Keeps l.fn.into.items l.into.items
