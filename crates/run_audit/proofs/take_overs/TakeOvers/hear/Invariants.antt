use Rattle.std.proofs.Common.{◌≡◌, ◌+◌, ◌≤◌, length, take}
use Rattle.ring_points.specs.declared.who.Who.{Who}
use Rattle.fabric_terms.specs.Reports.{Told, told_on}
use Rattle.fabric_terms.specs.TakeOvers.{was_taken_over}
use Rattle.run_audit.specs.Owners.{taken_at, taken_room}
use Rattle.run_audit.proofs.take_overs.TakeOvers.hear.Given as goal

abbrev pub invariant-loop-report : goal.invariant-loop-report
invariant-loop-report l = record {
  enough : length l.reports ≤ taken_room l.self + l.report-index;
  heard : (t : Told) → ((v : Who) → taken_at v l.fn.self ≡ was_taken_over v t) → (v : Who) → taken_at v l.self ≡ was_taken_over v (told_on l.fn.who (take l.report-index l.reports) t);
}
