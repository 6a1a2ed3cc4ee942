use Rattle.std.proofs.Common.{arith}
use Rattle.arbiter_quorum.proofs.Majorities.{are_counted-push, room_for_one}
use Rattle.heir_rounds.proofs.rounds.RoundTally.count.Goals as goal

pub push-requires : goal.push-requires
push-requires c = omega (arith, c.self.invariant.few, room_for_one c.self.inside.arbitrators c.args.arbitrator c.args.kept c.self.inside.answers.items c.requires.from (grind arith) (grind arith) c.self.invariant.counted)

pub invariant_of-self : goal.invariant_of-self
invariant_of-self c = record {
  few = c.self.invariant.few;
  counted = rw c.push.ensures.items (are_counted-push c.self.inside.arbitrators c.args.arbitrator c.args.kept c.self.inside.answers.items c.requires.from (grind arith) (grind arith) c.self.invariant.counted);
}
