use Rattle.std.proofs.Common.{◌≡◌, ◌+◌, take}
use Rattle.std.specs.Prelude.{count_by}
use Rattle.fabric_terms.specs.Places.{tells_leave}
use Rattle.schedule_generate.specs.Texts.{is_take_over}
use Rattle.schedule_generate.proofs.summary.DrillCounts.count.Given as goal

abbrev pub invariant-loop-report : goal.invariant-loop-report
invariant-loop-report l = record {
  took_over : l.self.took_over ≡ l.fn.self.took_over + count_by is_take_over (take l.report-index l.reports);
  left : l.self.left ≡ l.fn.self.left + count_by tells_leave (take l.report-index l.reports);
}
