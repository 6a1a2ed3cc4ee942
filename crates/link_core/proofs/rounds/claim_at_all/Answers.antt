use Rattle.std.proofs.Common.{refl, arith}
use Rattle.std.proofs.lemmas.List.{append-nil}
use Rattle.link_core.proofs.Asked.{claimed_first-zero, claimed_more, claimed_room}
use Rattle.link_core.proofs.rounds.claim_at_all.Goals as goal

pub loop-k-init : goal.loop-k-init
loop-k-init c = rw (claimed_first-zero, append-nil) refl

pub claim_owed-requires-clause-room : goal.claim_owed-requires-clause-room
claim_owed-requires-clause-room c =
    claimed_room c.args.link.now c.loop-k.k c.args.arbitrators _ _ c.loop-k.invariant (omega arith) c.requires.room

pub loop-k-preserved : goal.loop-k-preserved
loop-k-preserved c = claimed_more c.loop-k.k c.args.link.now _ _ _ c.loop-k.invariant c.claim_owed.ensures
