use Rattle.std.proofs.Common.{◌≡◌, ◌+◌, false, length, subst, sym, arith}
use Rattle.replica_core.specs.Replicas.{Replica}
use Rattle.replica_core.specs.Calls.{is_gap}
use Rattle.replica_core.specs.Views.{seen}
use Rattle.replica_core.proofs.Numbered.{log_grown, next_number}
use Rattle.replica_core.proofs.replica.Replica.collect.Goals as goal

pub invariant_of-self-else-lsn-eq1 : goal.invariant_of-self-else-lsn-eq1
invariant_of-self-else-lsn-eq1 c =
    let Gap : Replica → Type 0 = λ s. is_gap c.args.e c.args.lsn s ≡ false in
    let gap : is_gap c.args.e c.args.lsn (seen c.self.inside) ≡ false = subst Gap (sym c.self.view_is) c.requires.next in
    let next : c.args.lsn ≡ length c.self.inside.collected.items + 1 = next_number c.args.e c.args.lsn (seen c.self.inside) gap c.if-lsn-eq1.false in
    record {
      at_promised = c.self.invariant.at_promised;
      log = c.self.invariant.log;
      collected = rw c.in_ok-push-2.ensures.items (log_grown _ _ c.self.invariant.collected (grind (arith, next)) (grind arith));
    }
