use Rattle.unit_replica.proofs.Naming.{appended, longer_named}
use Rattle.unit_replica.proofs.named_replica.NamedReplica.append.Goals as goal

pub invariant_of-self : goal.invariant_of-self
invariant_of-self c =
    let old = c.self.inside.replica in
    let new = c.append.new.self in
    let is = appended c.args.e c.args.lsn c.args.bytes.now old new c.append.result c.append.ensures.answers in (
      longer_named old.log new.log c.self.inside.names.count c.self.inside.names.names is.0 c.self.invariant.0,
      longer_named old.collected new.collected c.self.inside.coming.count c.self.inside.coming.names is.1 c.self.invariant.1,
    )
