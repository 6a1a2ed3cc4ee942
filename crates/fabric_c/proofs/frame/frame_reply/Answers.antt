use Rattle.std.proofs.Common.{ℕ, List, Option, arith, inl, sym, subst}
use Rattle.fabric_c.specs.Replies.{Replies}
use Rattle.fabric_c.proofs.Frames.{line_is, no_line}
use Rattle.fabric_c.proofs.frame.frame_reply.Goals as goal

pub returns-in-Ok : goal.returns-in-Ok
returns-in-Ok c =
    let is = line_is c.args.bytes.now c.decode_into.new.message c.in-Ok.ensures.0 c.in-Ok.ensures.1 in
    subst (λ (o : Option (List ℕ)). Replies o c.worded.result.text.items c.worded.result.code) (sym is) c.worded.ensures

pub returns-in-Err : goal.returns-in-Err
returns-in-Err c =
    let none = no_line c.args.bytes.now (λ k. omega (arith, c.type_inv.bytes k)) c.in-Err.ensures in
    subst (λ (o : Option (List ℕ)). Replies o c.bare.result.text.items c.bare.result.code) (sym none) (inl (c.bare.ensures.text, c.bare.ensures.code))
