use Rattle.std.proofs.Common.{List, sym, ap, ◌∙◌, subst}
use Rattle.std.specs.List.{insert}
use Rattle.write_safety.specs.Books.{Commits, KeptLog, logs_rise}
use Rattle.write_safety.specs.Places.{IsGap}
use Rattle.write_safety.proofs.Committing.{gap_commits, gap_rises}
use Rattle.write_safety.proofs.book.WriteBook.begin.Goals as goal

pub invariant_of-self-2 : goal.invariant_of-self-2
invariant_of-self-2 c =
    let logs = c.self.inside.logs.items in
    let place = c.args.place in
    let gap : IsGap c.args.partition c.args.data_loss logs place =
    subst (λ (ls : List KeptLog). IsGap c.args.partition c.args.data_loss ls place) (sym c.self.view_is) c.requires in
    ap logs_rise (c.in_ok-insert.ensures.items ∙ ap (insert logs place) c.in_ok-begun.ensures)
    ∙ gap_rises c.args.partition c.args.data_loss c.args.committed.now logs place gap c.self.invariant

pub returns-clause-ok : goal.returns-clause-ok
returns-clause-ok c =
    let old = c.args.self.now in
    let place = c.args.place in
    let begun : KeptLog = record { partition = c.args.partition; data_loss = c.args.data_loss; entries = c.args.committed.now } in
    let is = c.in_ok-insert.ensures.items
    ∙ (ap (insert c.self.inside.logs.items place) c.in_ok-begun.ensures ∙ ap (λ (ls : List KeptLog). insert ls place begun) c.self.view_is) in
    subst (λ (ls : List KeptLog). Commits c.args.partition c.args.data_loss c.args.committed.now old ls) (sym is)
    (gap_commits c.args.partition c.args.data_loss c.args.committed.now old place c.requires)
