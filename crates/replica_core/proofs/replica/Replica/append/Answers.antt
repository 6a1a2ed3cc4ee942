use Rattle.std.proofs.Common.{arith}
use Rattle.replica_core.proofs.Numbered.{log_grown}
use Rattle.replica_core.proofs.replica.Replica.append.Goals as goal

pub invariant_of-self-2 : goal.invariant_of-self-2
invariant_of-self-2 c = record {
  at_promised = c.self.invariant.at_promised;
  log = rw c.in_ok-push.ensures.items (log_grown _ _ c.self.invariant.log (omega arith) (omega arith));
  collected = c.self.invariant.collected;
}
