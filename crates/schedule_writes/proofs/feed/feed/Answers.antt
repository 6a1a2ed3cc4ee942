use Rattle.std.proofs.Common.{List, subst}
use Rattle.fabric_terms.specs.declared.report.Report.{Report}
use Rattle.write_safety.specs.Fed.{FedByAll}
use Rattle.schedule_writes.specs.Feeding.{MayFeedAll, running_logs}
use Rattle.schedule_writes.proofs.Reports.{leads_all, leads_next, may_next, all_fed}
use Rattle.schedule_writes.proofs.feed.feed.Goals as goal

pub loop-report-init : goal.loop-report-init
loop-report-init c config h stands may =
    leads_all (running_logs config h c.args.acted.now.who.actor) c.as_slice-report-items.result.now c.args.book.now c.args.book.now may

pub loop-report-preserved : goal.loop-report-preserved
loop-report-preserved c config h stands may =
    let logs = running_logs config h c.args.acted.now.who.actor in
    let items = c.as_slice-report-items.result.now in
    let i = c.loop-report.report-index in
    let r = c.report-item.result in
    let leads = c.loop-report.invariant config h stands may in
    leads_next logs items c.args.book.now c.loop-report.book i r c.loop-report-test.true c.report-item.is leads c.feed_report.new.book
    (c.in_ok-feed_report.ensures config h stands (may_next logs items c.args.book.now c.loop-report.book i r c.loop-report-test.true c.report-item.is leads))

pub returns : goal.returns
returns c config h stands may =
    let logs = running_logs config h c.args.acted.now.who.actor in
    let first = c.args.book.now in
    let last = c.loop-report.book in
    subst (λ (rs : List Report). MayFeedAll logs rs first → FedByAll logs rs first last) c.as_slice-report-items.ensures
    (λ fed. all_fed logs c.as_slice-report-items.result.now first last c.loop-report.report-index c.loop-report-test.false (c.loop-report.invariant config h stands fed)) may
