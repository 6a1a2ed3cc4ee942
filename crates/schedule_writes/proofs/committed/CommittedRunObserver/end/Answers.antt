use Rattle.schedule_writes.proofs.Words.{closed, on_ok}
use Rattle.schedule_writes.proofs.committed.CommittedRunObserver.end.Goals as goal

pub returns-clause-ended : goal.returns-clause-ended
returns-clause-ended c config h known stands =
    let counts = c.counts.ensures config h stands in
    on_ok c.push_end.result _ _
    (λ ended. closed config h c.args.self.now.book c.counts.result.0 c.counts.result.1 c.args.text.now.items c.print.new.into.items c.push_end.new.text.items
    c.print.ensures.rising known counts.0 counts.1 c.in_ok-print.ensures.ok ended)
    c.push_end.ensures.ok
