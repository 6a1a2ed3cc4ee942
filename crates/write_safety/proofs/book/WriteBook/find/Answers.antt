use Rattle.std.proofs.Common.{List, sym, ◌∙◌, subst, arith}
use Rattle.write_safety.specs.Books.{KeptLog}
use Rattle.write_safety.specs.Places.{IsAt, IsGap, Parts}
use Rattle.write_safety.proofs.Finding.{found_at, gap_at_other, gap_at_end}
use Rattle.write_safety.proofs.book.WriteBook.find.Goals as goal
use Rattle.write_safety.proofs.book.WriteBook.find.Goals.{else-place-len-via-then-place-len+else-is_of, else-place-len-via-else-place-len}

pub returns-then-is_of : goal.returns-then-is_of
returns-then-is_of c =
    let p = c.args.partition in
    let d = c.args.data_loss in
    let place = c.parted-place.result in
    let logs = c.self.inside.logs.items in
    let parts : Parts p d logs place = subst (λ (ls : List KeptLog). Parts p d ls place) (sym c.self.view_is) c.parted-place.ensures in
    subst (λ (ls : List KeptLog). IsAt p d ls place) c.self.view_is
    (found_at p d logs place parts c.index.result.now (omega arith) c.index.ensures (sym c.is_of.ensures ∙ c.if-is_of.true))

pub returns-else-place-len : goal.returns-else-place-len
returns-else-place-len c =
    let p = c.args.partition in
    let d = c.args.data_loss in
    let place = c.parted-place.result in
    let logs = c.self.inside.logs.items in
    let parts : Parts p d logs place = subst (λ (ls : List KeptLog). Parts p d ls place) (sym c.self.view_is) c.parted-place.ensures in
    let gap : IsGap p d logs place =
    elim c.else-place-len.branch [
      | else-place-len-via-then-place-len+else-is_of w ↦
          gap_at_other p d logs place parts w.index.result.now c.self.invariant w.index.ensures (sym w.is_of.ensures ∙ w.if-is_of.false)
      | else-place-len-via-else-place-len w ↦ gap_at_end p d logs place parts c.self.invariant (omega arith)
    ] in
    subst (λ (ls : List KeptLog). IsGap p d ls place) c.self.view_is gap
