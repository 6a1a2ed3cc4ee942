use Rattle.std.proofs.Common.{◌++◌, ap, codes, decimal}
use Rattle.status_page.specs.Metrics.{info_labels}
use Rattle.status_page.proofs.Joins.{behind, on_ok, spelled}
use Rattle.status_page.proofs.metrics.info.push_labels.Goals as goal

pub returns : goal.returns
unfolding info_labels
returns c =
    let t0 = c.args.into.now.items in
    let t1 = c.push_bytes.new.into.items in
    let t2 = c.push_hex.new.into.items in
    let t3 = c.push_bytes-2.new.into.items in
    let t4 = c.push_bytes-3.new.into.items in
    let t5 = c.push_number_behind.new.into.items in
    on_ok c.push_bytes-4.result _ _
    (λ last.
    behind t0 t1 _ _ _ c.in_ok-push_bytes.ensures.ok
    (behind t1 t2 _ _ _ c.in_ok-push_hex.ensures.ok
    (behind t2 t3 _ _ _ c.in_ok-push_bytes-2.ensures.ok
    (behind t3 t4 _ _ _ (spelled t3 t4 _ _ c.in_ok-push_bytes-3.ensures.ok c.deref.ensures.value)
    (behind t4 t5 _ _ _ (spelled t4 t5 _ _ c.in_ok-push_number_behind.ensures.ok (ap (λ n. codes "\",instance=\"" ++ decimal n) c.from.ensures)) last)))))
    c.push_bytes-4.ensures.ok
