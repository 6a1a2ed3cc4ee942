use Rattle.std.proofs.Common.{◌≡◌, ◌+◌, ◌≤◌, ℕ, take, drop, length, length-drop, length-take, ap, sym, ◌∙◌, arith}
use Rattle.std.proofs.lemmas.List.{drop-drop}
use Rattle.source_lines.specs.Reading.{Reading}
use Rattle.source_lines.proofs.Cuts.{is_feed}
use Rattle.source_lines.proofs.Pieces.{front_between}
use Rattle.source_lines.proofs.Positions.{position_some}
use Rattle.source_lines.proofs.reader.LineReader.take_to.Goals as goal

pub returns : goal.returns
returns c =
    let next = c.self.inside.next in
    let end = c.self.inside.end in
    let room = c.self.inside.room.items in
    let feed = c.args.feed in
    let waits : drop next (take end room) ≡ c.args.self.now.waiting = ap (λ (r : Reading). r.waiting) c.self.view_is in
    let at = position_some is_feed c.args.self.now.waiting feed c.requires in
    let fits : next + (feed + 1) ≤ end = omega (arith, at.1, ap length waits, length-drop {A = ℕ}, length-take {A = ℕ}) in (
      c.if-feed-most.false,
      front_between next end feed room (omega arith) ∙ ap (take feed) waits,
      ap (λ n. drop n (take end room)) (omega arith) ∙ (sym (drop-drop (feed + 1) next (take end room)) ∙ ap (drop (feed + 1)) waits),
      ap (λ n. drop next (take n room)) (omega arith) ∙ (front_between next end (feed + 1) room fits ∙ ap (take (feed + 1)) waits),
    )
