use Rattle.std.proofs.Common.{◌++◌, ap, codes, decimal}
use Rattle.status_page.specs.States.{arbiter_text}
use Rattle.status_page.proofs.Joins.{behind, on_ok, spelled}
use Rattle.status_page.proofs.state.push_arbiter.Goals as goal

pub returns : goal.returns
unfolding arbiter_text
returns c =
    let t0 = c.args.into.now.items in
    let t1 = c.push_number_behind.new.into.items in
    let t2 = c.push_number_behind-2.new.into.items in
    on_ok c.push_door_fields.result _ _
    (λ last.
    behind t0 t1 _ _ _ (spelled t0 t1 _ _ c.in_ok-push_number_behind.ensures.ok (ap (λ n. codes "{\"arbiter\":" ++ decimal n) c.from.ensures))
    (behind t1 t2 _ _ _ c.in_ok-push_number_behind-2.ensures.ok last))
    c.push_door_fields.ensures
