use Rattle.std.proofs.Common.{List, [], sym, ap, ◌∙◌, subst}
use Rattle.write_safety.specs.Books.{KeptLog, entries_of}
use Rattle.write_safety.specs.Places.{IsAt}
use Rattle.write_safety.proofs.Committing.{kept_here, log_at, none_kept}
use Rattle.write_safety.proofs.book.WriteBook.list.Goals as goal

pub returns-in-Ok : goal.returns-in-Ok
returns-in-Ok c =
    let p = c.args.partition in
    let d = c.args.data_loss in
    let logs = c.self.inside.logs.items in
    let place = c.in-Ok.place in
    let here : IsAt p d logs place = subst (λ (ls : List KeptLog). IsAt p d ls place) (sym c.self.view_is) c.in-Ok.ensures in
    let is = log_at p d [] logs place here c.index.result.now c.index.ensures in
    c.entries.ensures
    ∙ (ap (λ (l : KeptLog). l.entries) is ∙ (sym (kept_here p d [] logs place here) ∙ ap (entries_of p d) c.self.view_is))

pub returns-in-Err : goal.returns-in-Err
returns-in-Err c = sym (none_kept c.args.partition c.args.data_loss [] c.args.self.now c.in-Err.field-0 c.in-Err.ensures)
