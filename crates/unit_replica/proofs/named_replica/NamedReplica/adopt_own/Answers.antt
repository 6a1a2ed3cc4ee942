use Rattle.std.proofs.Common.{ap, length}
use Rattle.unit_replica.proofs.Naming.{adopted_own}
use Rattle.unit_replica.proofs.named_replica.NamedReplica.adopt_own.Goals as goal

pub invariant_of-self : goal.invariant_of-self
invariant_of-self c =
    let old = c.self.inside.replica in
    let new = c.adopt_own-done.new.self in
    let is = adopted_own old new c.args.e c.args.last c.adopt_own-done.result c.adopt_own-done.ensures in (
      c.follow.ensures old.log new.log (ap length c.log.ensures.log) is.0 c.self.invariant.0,
      c.follow-2.ensures old.collected new.collected c.collected.ensures.count is.1 c.self.invariant.1,
    )
