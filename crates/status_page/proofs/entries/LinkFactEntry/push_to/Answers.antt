use Rattle.status_page.specs.States.{link_entry}
use Rattle.status_page.proofs.Joins.{behind, on_ok, spelled}
use Rattle.status_page.proofs.entries.LinkFactEntry.push_to.Goals as goal

pub returns : goal.returns
unfolding link_entry
returns c =
    let t0 = c.args.into.now.items in
    let t1 = c.push_who_behind.new.into.items in
    let t2 = c.push_bytes.new.into.items in
    let t3 = c.push_bytes-2.new.into.items in
    let t4 = c.push_number_behind.new.into.items in
    on_ok c.push_bytes-3.result _ _
    (λ last.
    behind t0 t1 _ _ _ c.in_ok-push_who_behind.ensures.ok
    (behind t1 t2 _ _ _ c.in_ok-push_bytes.ensures.ok
    (behind t2 t3 _ _ _ (spelled t2 t3 _ _ c.in_ok-push_bytes-2.ensures.ok c.link_word.ensures)
    (behind t3 t4 _ _ _ c.in_ok-push_number_behind.ensures.ok last))))
    c.push_bytes-3.ensures.ok
