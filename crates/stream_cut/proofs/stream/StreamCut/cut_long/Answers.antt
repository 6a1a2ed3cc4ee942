use Rattle.std.proofs.Common.{◌≡◌, ◌+◌, ◌-◌, ℕ, take, drop, length, length-drop, length-take, ap, arith}
use Rattle.stream_cut.specs.Cuts.{Stream}
use Rattle.stream_cut.proofs.Cutting.{long_given}
use Rattle.stream_cut.proofs.stream.StreamCut.cut_long.Goals as goal

pub returns-clause-given : goal.returns-clause-given
returns-clause-given c =
    let next = c.self.inside.next in
    let end = c.self.inside.end in
    let room = c.self.inside.room.items in
    let waits : drop next (take end room) ≡ c.args.self.now.waiting = ap (λ (r : Stream). r.waiting) c.self.view_is in
    let most : length room - 1 ≡ c.args.self.now.most = ap (λ (r : Stream). r.most) c.self.view_is in
    let full : length c.args.self.now.waiting ≡ c.args.self.now.most + 1 =
    omega (arith, most, ap length waits, length-drop {A = ℕ}, length-take {A = ℕ}, c.if-self-len.false, c.len.ensures, c.self.invariant) in
    rw c.drop_all.ensures (long_given c.args.self.now c.requires.nothing c.requires.none full)
