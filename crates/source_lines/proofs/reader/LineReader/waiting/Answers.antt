use Rattle.std.proofs.Common.{◌-◌, ℕ, List, take, drop, ap, ◌∙◌}
use Rattle.source_lines.specs.Reading.{Reading}
use Rattle.source_lines.proofs.Pieces.{between}
use Rattle.source_lines.proofs.reader.LineReader.waiting.Goals as goal

pub returns : goal.returns
returns c =
    let next = c.self.inside.next in
    let end = c.self.inside.end in
    ap (λ (xs : List ℕ). take (end - next) (drop next xs)) c.deref.ensures.value
    ∙ (between next end c.self.inside.room.items c.self.invariant.4 ∙ ap (λ (r : Reading). r.waiting) c.self.view_is)
