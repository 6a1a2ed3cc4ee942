use Rattle.link_core.proofs.FiredFew.{room_after_asking}
use Rattle.link_core.proofs.firing.spoken.Goals as goal

pub claim_round-requires-clause-room : goal.claim_round-requires-clause-room
claim_round-requires-clause-room c =
    room_after_asking c.args.firing.now.arbitrators c.in-Some.link c.args.out.now _ c.ask_arbiters-in-Discharged-2.ensures c.requires.few c.requires.room
