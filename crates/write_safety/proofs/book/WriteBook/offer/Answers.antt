use Rattle.std.proofs.Common.{List, set, sym, ap, ◌∙◌, subst}
use Rattle.std.specs.Result.{OnOk}
use Rattle.replica_core.specs.declared.entry.Entry.{Entry}
use Rattle.write_safety.specs.Books.{Agree, Commits, KeptLog, entries_of}
use Rattle.write_safety.specs.Places.{IsAt}
use Rattle.write_safety.proofs.Lengthening.{begun_others, lengthened_commits, lengthened_others, lengthened_rises, may_lengthen}
use Rattle.write_safety.proofs.book.WriteBook.offer.Goals as goal

pub invariant_of-self : goal.invariant_of-self
invariant_of-self c =
    let p = c.args.partition in
    let d = c.args.epoch.data_loss in
    let logs = c.self.inside.logs.items in
    let place = c.in-Ok.place in
    let committed = c.front_of-committed.result.now in
    let here : IsAt p d logs place = subst (λ (ls : List KeptLog). IsAt p d ls place) (sym c.self.view_is) c.in-Ok.ensures in
    lengthened_rises p d committed logs place here c.index_mut.result.now c.lengthen.new.self c.index_mut.ensures.value
    c.lengthen.ensures.partition c.lengthen.ensures.data_loss c.self.invariant

pub returns-in-Ok-clause-ok : goal.returns-in-Ok-clause-ok
returns-in-Ok-clause-ok c =
    let p = c.args.partition in
    let d = c.args.epoch.data_loss in
    let logs = c.self.inside.logs.items in
    let place = c.in-Ok.place in
    let committed = c.front_of-committed.result.now in
    let here : IsAt p d logs place = subst (λ (ls : List KeptLog). IsAt p d ls place) (sym c.self.view_is) c.in-Ok.ensures in
    let l = c.index_mut.result.now in
    let m = c.lengthen.new.self in
    let at = c.index_mut.ensures.value in
    subst
    (λ (es : List Entry). Agree es (entries_of p d c.args.self.now) → OnOk c.lengthen.result (Commits p d es c.args.self.now (set logs place m)))
    c.front_of-committed.ensures
    (λ agree.
    subst (λ (ls : List KeptLog). OnOk c.lengthen.result (Commits p d committed ls (set logs place m))) c.self.view_is
    (lengthened_commits p d committed logs place here l m at c.lengthen.result
    (c.lengthen.ensures.ok
    (may_lengthen p d committed logs place here l m at (subst (λ (ls : List KeptLog). Agree committed (entries_of p d ls)) (sym c.self.view_is) agree)))))

pub returns-in-Ok-clause-others : goal.returns-in-Ok-clause-others
returns-in-Ok-clause-others c q e other =
    let p = c.args.partition in
    let d = c.args.epoch.data_loss in
    let logs = c.self.inside.logs.items in
    let place = c.in-Ok.place in
    let committed = c.front_of-committed.result.now in
    let here : IsAt p d logs place = subst (λ (ls : List KeptLog). IsAt p d ls place) (sym c.self.view_is) c.in-Ok.ensures in
    lengthened_others p d committed logs place here c.index_mut.result.now c.lengthen.new.self c.index_mut.ensures.value
    c.lengthen.ensures.partition c.lengthen.ensures.data_loss q e other ∙ ap (entries_of q e) c.self.view_is

pub returns-in-Err-clause-others : goal.returns-in-Err-clause-others
returns-in-Err-clause-others c =
    begun_others c.args.partition c.args.epoch.data_loss c.front_of-committed.result.now c.args.self.now c.begin.new.self c.begin.result c.begin.ensures.ok c.begin.ensures.refused
