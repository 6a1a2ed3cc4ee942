use Rattle.std.proofs.Common.{◌≡◌, List, true, rules, ap, ◌∙◌, subst}
use Rattle.std.proofs.lemmas.List.Sorted.{IsPartitionPoint-from_clause}
use Rattle.write_safety.specs.Books.{KeptLog, comes_before, logs_rise}
use Rattle.write_safety.specs.Places.{Parts}
use Rattle.write_safety.proofs.Finding.{parts_at, rise_parted}
use Rattle.write_safety.proofs.book.WriteBook.parted.Goals as goal

pub returns : goal.returns
returns c =
    let p = c.args.partition in
    let d = c.args.data_loss in
    let logs = c.deref.result.now in
    let is : logs ≡ c.args.self.now = c.deref.ensures.value ∙ c.self.view_is in
    let rise : logs_rise logs ≡ true = ap logs_rise c.deref.ensures.value ∙ c.self.invariant in
    let point = IsPartitionPoint-from_clause (comes_before p d) _ _ c.partition_point.ensures.partitioned (rise_parted p d logs rise)
    (λ a r q k. search rules) in
    subst (λ (ls : List KeptLog). Parts p d ls c.partition_point.result) is
    (parts_at p d logs c.partition_point.result c.partition_point.ensures.bound point)
