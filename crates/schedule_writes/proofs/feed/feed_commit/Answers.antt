use Rattle.std.proofs.Common.{◌≡◌, List, Some, None, sym, subst, ◌∙◌, take, OnOk}
use Rattle.replica_core.specs.declared.entry.Entry.{Entry}
use Rattle.write_safety.specs.Books.{Agree, Commits, entries_of}
use Rattle.schedule_writes.specs.Feeding.{running_logs}
use Rattle.schedule_writes.proofs.Logs.{log_is, none_committed}
use Rattle.schedule_writes.proofs.feed.feed_commit.Goals as goal

pub returns-in-None : goal.returns-in-None
returns-in-None c config h stands may =
    none_committed c.args.partition c.args.epoch.data_loss c.args.last (running_logs config h c.args.node c.args.partition) c.args.book.now
    (log_is config h c.args.node c.args.partition None (c.in-None.ensures config h stands))

pub returns-in-Some : goal.returns-in-Some
returns-in-Some c config h stands may =
    let p = c.args.partition in
    let d = c.args.epoch.data_loss in
    let last = c.args.last in
    let log : c.log.result.now ≡ running_logs config h c.args.node p =
    c.log.ensures.log ∙ sym (log_is config h c.args.node p (Some c.in-Some.replica.now) (c.in-Some.ensures config h stands)) in
    subst
    (λ (es : List Entry). Agree (take last es) (entries_of p d c.args.book.now) → OnOk c.offer.result (Commits p d (take last es) c.args.book.now c.offer.new.self))
    log c.offer.ensures.ok may.1
