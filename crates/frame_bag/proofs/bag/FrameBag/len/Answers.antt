use Rattle.std.proofs.Common.{ap, arith, length, length-append, sym}
use Rattle.std.proofs.lemmas.List.{length-reverse}
use Rattle.frame_bag.proofs.Posted.{count_is}
use Rattle.frame_bag.proofs.bag.FrameBag.len.Goals as goal

pub returns : goal.returns
returns c =
    let e = count_is _ _ _ c.self.invariant.0 in
    let f = count_is _ _ _ c.self.invariant.1 in
    let both = simp (length-append, length-reverse) at (ap length (sym (ap (λ b. b.frames) c.self.view_is))) in
    omega (arith, e, f, both)
