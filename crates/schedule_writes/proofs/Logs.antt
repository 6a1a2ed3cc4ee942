-- The logs of running nodes by their replicas.
use Rattle.std.proofs.Common.{◌≡◌, ℕ, List, [], false, cond, length, Option, None, Some, refl, sym, ap, ◌∙◌, take, nat_lt, arith}
use Rattle.std.specs.Prelude.{unwrap_or}
use Rattle.std.proofs.lemmas.Bool.Decides.{nat_tests}
use Rattle.std.proofs.Math.Seq.{take-nil}
use Rattle.fabric_lemmas.specs.Maps.{at}
use Rattle.unit_rules.specs.Fabric.{fabric}
use Rattle.fabric_terms.specs.declared.config.FabricConfig.{FabricConfig}
use Rattle.replica_core.specs.Replicas.{Replica}
use Rattle.replica_core.specs.declared.entry.Entry.{Entry}
use Rattle.unit_rules.specs.Ruled.{ruled}
use Rattle.ring_world.specs.Replicas.{replica_in, replica_of_running}
use Rattle.unit_replica.specs.Tables.{replica_of_state}
use Rattle.unit_rules.specs.ReplicaStates.{ReplicaState, first_state}
use Rattle.world_rules.specs.Runs.{History}
use Rattle.world_rules.specs.Worlds.{Running}
use Rattle.write_safety.specs.Beside.{log_of_running}
use Rattle.write_safety.specs.Books.{Commits, KeptLog, entries_of, longer}
use Rattle.schedule_writes.specs.Feeding.{running_logs}

abbrev pub log_of_replica : Option Replica → List Entry
log_of_replica None = []
log_of_replica (Some r) = r.log

-- a replica that is not there is as good as one with no entries
log_of_state : (partition : ℕ) (o : Option ReplicaState) → (unwrap_or o (first_state partition)).replica.log ≡ log_of_replica (replica_of_state o)
log_of_state partition None = refl
log_of_state partition (Some state) = refl

log_running : (partition : ℕ) (o : Option (Running fabric)) → log_of_running partition o ≡ log_of_replica (replica_of_running partition o)
log_running partition None = refl
log_running partition (Some s) = log_of_state partition (at partition s.node.above.states)

pub log_is : (c : FabricConfig) (h : History) (node partition : ℕ) (o : Option Replica) → o ≡ replica_in (ruled c h) node partition → running_logs c h node partition ≡ log_of_replica o
log_is c h node partition o here = log_running partition (at node (ruled c h).nodes) ∙ ap log_of_replica (sym here)

none_longer : (kept : List Entry) → longer [] kept ≡ kept
none_longer kept = let no : nat_lt (length kept) 0 ≡ false = grind (arith, nat_tests) in ap (λ b. cond b [] kept) no

-- no entries are committed: all stays
pub none_committed : (partition data_loss last : ℕ) (log : List Entry) (book : List KeptLog) → log ≡ [] → Commits partition data_loss (take last log) book book
none_committed partition data_loss last log book none =
    let empty : take last log ≡ [] = ap (take last) none ∙ take-nil last in
    record { here = sym (ap (λ es. longer es (entries_of partition data_loss book)) empty ∙ none_longer (entries_of partition data_loss book)); others = λ p d other. refl }
