use Rattle.unit_replica.proofs.Naming.{longer_named, idled}
use Rattle.unit_replica.proofs.named_replica.NamedReplica.idle.Goals as goal

pub invariant_of-self : goal.invariant_of-self
invariant_of-self c =
    let old = c.self.inside.replica in
    let new = c.idle-done.new.self in
    let is = idled old new c.args.e c.idle-done.result c.idle-done.ensures in (
      longer_named old.log new.log c.self.inside.names.count c.self.inside.names.names is.0 c.self.invariant.0,
      c.follow.ensures old.collected new.collected c.collected.ensures.count is.1 c.self.invariant.1,
    )
