use Rattle.std.proofs.Common.{◌++◌, ap, codes, decimal}
use Rattle.status_page.specs.States.{replica_entry}
use Rattle.status_page.proofs.Joins.{behind, on_ok, spelled}
use Rattle.status_page.proofs.entries.ReplicaFactEntry.push_to.Goals as goal

pub returns : goal.returns
unfolding replica_entry
returns c =
    let t0 = c.args.into.now.items in
    let t1 = c.push_number_behind.new.into.items in
    let t2 = c.push_epoch_field.new.into.items in
    let t3 = c.push_bytes.new.into.items in
    let t4 = c.push_bytes-2.new.into.items in
    let t5 = c.push_number_behind-2.new.into.items in
    on_ok c.push_bytes-3.result _ _
    (λ last.
    behind t0 t1 _ _ _ (spelled t0 t1 _ _ c.in_ok-push_number_behind.ensures.ok (ap (λ n. codes "{\"partition\":" ++ decimal n) c.from.ensures))
    (behind t1 t2 _ _ _ c.in_ok-push_epoch_field.ensures
    (behind t2 t3 _ _ _ c.in_ok-push_bytes.ensures.ok
    (behind t3 t4 _ _ _ (spelled t3 t4 _ _ c.in_ok-push_bytes-2.ensures.ok c.role_word.ensures)
    (behind t4 t5 _ _ _ (spelled t4 t5 _ _ c.in_ok-push_number_behind-2.ensures.ok (ap (λ n. codes "\",\"last\":" ++ decimal n) c.from-2.ensures)) last)))))
    c.push_bytes-3.ensures.ok
