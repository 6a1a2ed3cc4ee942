use Rattle.std.proofs.Common.{refl, arith}
use Rattle.std.proofs.lemmas.List.{append-nil}
use Rattle.link_core.proofs.Asked.{asked_first-zero, asked_more}
use Rattle.link_core.proofs.firing.ask_arbiters.Goals as goal

pub loop-k-init : goal.loop-k-init
loop-k-init c = record { sent = rw (asked_first-zero, append-nil) refl; room = omega arith }

pub loop-k-preserved : goal.loop-k-preserved
loop-k-preserved c = record {
  sent = asked_more c.loop-k.k c.args.link.now.peer c.args.link.now.tally.answers _ _ _ c.loop-k.invariant.sent c.ask.ensures.asked;
  room = omega arith;
}
