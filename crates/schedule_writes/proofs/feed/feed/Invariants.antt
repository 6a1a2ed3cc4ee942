use Rattle.std.proofs.Common.{drop}
use Rattle.fabric_terms.specs.declared.config.FabricConfig.{FabricConfig}
use Rattle.ring_world.specs.Answers.{StandsFor}
use Rattle.world_rules.specs.Runs.{History}
use Rattle.schedule_writes.specs.Feeding.{MayFeedAll, running_logs}
use Rattle.schedule_writes.proofs.Reports.{Leads}
use Rattle.schedule_writes.proofs.feed.feed.Given as goal

abbrev pub invariant-loop-report : goal.invariant-loop-report
invariant-loop-report l =
    (c : FabricConfig) (h : History) → StandsFor l.world c h → MayFeedAll (running_logs c h l.acted.who.actor) l.report-items l.fn.book
    → Leads (running_logs c h l.acted.who.actor) l.report-items (drop l.report-index l.report-items) l.fn.book l.book
