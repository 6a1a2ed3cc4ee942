use Rattle.std.proofs.Common.{ap}
use Rattle.status_page.specs.States.{array_text, change_entry, partition_fields, replica_entry}
use Rattle.status_page.proofs.Joins.{behind, on_ok, spelled}
use Rattle.status_page.proofs.state.push_partition_fields.Goals as goal

pub returns : goal.returns
unfolding partition_fields
returns c =
    let t0 = c.args.into.now.items in
    let t1 = c.push_bytes.new.into.items in
    let t2 = c.push_array.new.into.items in
    let t3 = c.push_bytes-2.new.into.items in
    on_ok c.push_array-2.result _ _
    (λ last.
    behind t0 t1 _ _ _ c.in_ok-push_bytes.ensures.ok
    (behind t1 t2 _ _ _ (spelled t1 t2 _ _ c.in_ok-push_array.ensures (ap (λ xs. array_text replica_entry xs) c.deref.ensures.value))
    (behind t2 t3 _ _ _ c.in_ok-push_bytes-2.ensures.ok
    (spelled t3 _ _ _ last (ap (λ xs. array_text change_entry xs) c.deref-2.ensures.value)))))
    c.push_array-2.ensures
