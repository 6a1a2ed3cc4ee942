-- Where a node shows the machines, what it records is what they have.
use Rattle.std.proofs.Common.{sym, ap, ◌∙◌, subst, arith}
use Rattle.ring_points.specs.Epochs.{is_older}
use Rattle.replica_core.specs.Replicas.{Replica}
use Rattle.unit_rules.specs.Deeds.{still}
use Rattle.unit_rules.specs.ReplicaStates.{ReplicaState}
use Rattle.replica_records.specs.ReplicaStates.{state_at}
use Rattle.replica_records.proofs.Starting.{go_on_lem}
use Rattle.epoch_refinement.specs.Laws.{WhoShowsIsFit, StartsAreDeeds, LogsAreKept}
use Rattle.epoch_refinement.specs.Refined.{Refined}
use Rattle.epoch_refinement.proofs.Numbers.{test, older_below}
use Rattle.epoch_refinement.proofs.Rows.{restarts_are_deeds_lem}

pub fit_lem : WhoShowsIsFit
fit_lem c w p node s inv shows = record {
  partition = shows.partition;
  at_promised = test (is_older s.replica.promised s.replica.at)
      (λ h. absurd
      (let lt = older_below s.replica.promised s.replica.at shows.promised shows.joined h in let le = inv.logs.below node in omega arith)) (λ h. h);
  room = λ t h. let sync = shows.taken t h in sync.room;
}

pub start_lem : StartsAreDeeds
start_lem c w p me s records inv shows kept =
    subst (λ (z : ReplicaState). Refined c w p me (still z)) (sym (go_on_lem records s kept p)) (restarts_are_deeds_lem c w p me (state_at p s) inv shows)

pub logs_lem : LogsAreKept
logs_lem w p node s records shows kept = shows.log ∙ sym (ap (λ (r : Replica). r.log) (kept p))
