use Rattle.link_core.proofs.FiredFew.{room_for_claims}
use Rattle.link_core.proofs.rounds.round_judged.Goals as goal

pub claim_round-requires-clause-room : goal.claim_round-requires-clause-room
claim_round-requires-clause-room c = room_for_claims c.args.arbitrators c.in-Some.link c.args.out.now c.requires.few c.requires.room
