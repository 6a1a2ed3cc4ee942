use Rattle.std.proofs.Common.{◌≡◌, ◌+◌, ◌≤◌, ℕ, take, drop, length, length-drop, length-take, ap, sym, ◌∙◌, arith}
use Rattle.std.proofs.lemmas.List.{drop-drop}
use Rattle.stream_cut.specs.Cuts.{Stream}
use Rattle.stream_cut.proofs.Positions.{position_some}
use Rattle.stream_cut.proofs.Rooms.{front_between}
use Rattle.stream_cut.proofs.stream.StreamCut.cut_to.Goals as goal

pub returns-clause-cut : goal.returns-clause-cut
returns-clause-cut c =
    let next = c.self.inside.next in
    let end = c.self.inside.end in
    let room = c.self.inside.room.items in
    let feed = c.args.feed in
    let waits : drop next (take end room) ≡ c.args.self.now.waiting = ap (λ (r : Stream). r.waiting) c.self.view_is in
    let at = position_some _ c.args.self.now.waiting feed c.requires in
    let fits : next + (feed + 1) ≤ end = omega (arith, at.1, ap length waits, length-drop {A = ℕ}, length-take {A = ℕ}) in
    let rest : drop (next + feed + 1) (take end room) ≡ drop (feed + 1) c.args.self.now.waiting =
    ap (λ n. drop n (take end room)) (omega arith) ∙ (sym (drop-drop (feed + 1) next (take end room)) ∙ ap (drop (feed + 1)) waits) in
    let line : drop next (take (next + feed) room) ≡ take feed c.args.self.now.waiting = front_between next end feed room (omega arith) ∙ ap (take feed) waits in
    let skips = ap (λ (r : Stream). r.skips) c.self.view_is in
    let most = ap (λ (r : Stream). r.most) c.self.view_is in
    λ i. record { waiting = rest i; line = line i; skips = skips i; most = most i }
