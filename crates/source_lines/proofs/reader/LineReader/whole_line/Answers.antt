use Rattle.std.proofs.Common.{◌-◌, ℕ, List, take, drop, ap, ◌∙◌, arith}
use Rattle.source_lines.specs.Reading.{Reading}
use Rattle.source_lines.proofs.Pieces.{between}
use Rattle.source_lines.proofs.reader.LineReader.whole_line.Goals as goal

pub returns-clause-whole : goal.returns-clause-whole
returns-clause-whole c =
    let from = c.self.inside.from in
    let next = c.self.inside.next in
    let i = c.self.invariant in
    ap (λ (xs : List ℕ). take (next - from) (drop from xs)) c.deref.ensures.value
    ∙ (between from next c.self.inside.room.items (omega (arith, i.1, i.2)) ∙ ap (λ (r : Reading). r.whole) c.self.view_is)
