use Rattle.std.proofs.Common.{◌≡◌, ◌≤◌, ℕ, length, take, drop, ap, ◌∙◌, arith}
use Rattle.source_lines.specs.Reading.{Reading}
use Rattle.source_lines.proofs.Pieces.{same_front}
use Rattle.source_lines.proofs.reader.LineReader.widen.Goals as goal

pub returns-in-Ok-clause-rest : goal.returns-in-Ok-clause-rest
returns-in-Ok-clause-rest c =
    let before = c.self.inside in
    let i = c.self.invariant in
    let room = before.room.items in
    let longer = c.resize.new.self.items in
    let front : (n : ℕ) → n ≤ length room → take n longer ≡ take n room =
    λ n few. ap (take n) c.in-Ok.ensures.items ∙ same_front n 81920 room _ few (omega arith) in
    let seen = c.self.view_is in
    let at_end = front before.end i.5 in
    let at_to = front before.to (omega (arith, i.2, i.4, i.5)) in
    let at_next = front before.next (omega (arith, i.4, i.5)) in
    λ k. record {
      waiting = (ap (drop before.next) at_end ∙ ap (λ (r : Reading). r.waiting) seen) k;
      line = (ap (drop before.from) at_to ∙ ap (λ (r : Reading). r.line) seen) k;
      whole = (ap (drop before.from) at_next ∙ ap (λ (r : Reading). r.whole) seen) k;
      long = length longer;
      filled = (ap (λ (r : Reading). r.filled) seen) k;
    }
