use Rattle.std.proofs.Common.{rules, ⊎_elim}
use Rattle.wire_fields.proofs.Puts.{puts_more}
use Rattle.ring_wire.proofs.write.partitions.put_partition.Goals as goal

pub returns-in-Prepared : goal.returns-in-Prepared
returns-in-Prepared c = rw c.in-Prepared.is (search (rules, puts_more))

pub returns-in-Voted : goal.returns-in-Voted
returns-in-Voted c = rw c.in-Voted.is (search (rules, puts_more))

pub returns-in-NoPrepare : goal.returns-in-NoPrepare
returns-in-NoPrepare c =
    ⊎_elim (λ e. rw e (search (rules, puts_more))) (⊎_elim (λ e. rw e (search (rules, puts_more))) (λ e. rw e (search (rules, puts_more)))) c.in-NoPrepare.is
