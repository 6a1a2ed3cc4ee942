use Rattle.schedule_writes.specs.Feeding.{running_logs}
use Rattle.schedule_writes.proofs.Reports.{other_fed}
use Rattle.schedule_writes.proofs.feed.feed_report.Goals as goal

pub returns-in_default : goal.returns-in_default
returns-in_default c config h stands may =
    other_fed (running_logs config h c.args.node) c.args.report.now c.args.book.now (λ p last e is. c.in_default.not-Committed p e last is)
