use Rattle.std.proofs.Common.{ap, sym, ◌∙◌, map, vec_items, ◌++◌, ◌∷◌, []}
use Rattle.std.specs.Prelude.{◌==◌, position}
use Rattle.std.proofs.Math.Seq.{map-set_same}
use Rattle.std.proofs.lemmas.Result.{err_from_is_err_and}
use Rattle.edge_io.specs.Memory.{told_list}
use Rattle.edge_io.proofs.ToldLists.{adds_told_at, adds_told_list}
use Rattle.edge_io.proofs.mem_keeper.add_record.Goals as goal

pub returns-in_err-push_record-in-Some-clause-err :
    goal.returns-in_err-push_record-in-Some-clause-err
returns-in_err-push_record-in-Some-clause-err c =
    let refused = err_from_is_err_and c.from_residual-in_err-push_record-in-Some.result c.from_residual-in_err-push_record-in-Some.ensures.1 in
    rw refused.1 (map-set_same told_list c.args.lists.now.items c.in-Some.place c.push_record.new.list c.index_mut.result.now (c.in_err-push_record-in-Some.ensures.err ∙ ap told_list c.index_mut.ensures.value))

pub returns-in_ok-push_record-in-Some-clause-ok : goal.returns-in_ok-push_record-in-Some-clause-ok
returns-in_ok-push_record-in-Some-clause-ok c =
    let found = ap (position (λ e. e.0 == c.args.actor)) (sym c.deref.ensures.value) ∙ sym c.in-Some.ensures in
    let pushed = c.in_ok-push_record-in-Some.ensures.ok ∙ ap (λ r. (c.index_mut.result.now.0, map vec_items c.index_mut.result.now.1.items ++ r ∷ [])) c.in_ok-copy.ensures.items in
    adds_told_at c.args.lists.now.items c.in-Some.place c.args.actor c.args.bytes.now c.index_mut.result.now c.push_record.new.list found c.index_mut.ensures.value pushed

pub returns-in_ok-push-in-None-clause-ok : goal.returns-in_ok-push-in-None-clause-ok
returns-in_ok-push-in-None-clause-ok c =
    let found = ap (position (λ e. e.0 == c.args.actor)) (sym c.deref.ensures.value) ∙ sym c.in-None.ensures in
    let made = c.in_ok-list_of-in-None.ensures ∙ ap (λ r. (c.args.actor, r ∷ [])) c.in_ok-copy.ensures.items in
    rw c.in_ok-push-in-None.ensures.items (adds_told_list c.args.lists.now.items c.args.actor c.args.bytes.now c.in_ok-list_of-in-None.field-0 found made)
