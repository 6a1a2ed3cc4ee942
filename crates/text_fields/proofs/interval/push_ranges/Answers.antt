use Rattle.std.proofs.Common.{arith}
use Rattle.text_fields.specs.Intervals.{interval_text}
use Rattle.text_fields.proofs.Lists.{listed_first, written_on}
use Rattle.text_fields.proofs.interval.push_ranges.Goals as goal

pub loop-i-init : goal.loop-i-init
loop-i-init c =
    let ranges = c.args.ranges.now in
    let ensured = c.in_ok-push_interval-in-len1-up.ensures in (
      written_on c.args.into.now.items c.push_interval.new.into.items _ _ _ ensured.ok (listed_first interval_text ranges _ (omega arith)),
      ensured.kept,
    )
