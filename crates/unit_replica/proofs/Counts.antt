-- The replica states of a node stay a table.
use Rattle.std.proofs.Common.{◌≡◌, ℕ, ◌<◌, ◌≤◌, length, ap, ◌∙◌, arith}
use Rattle.std.proofs.lemmas.Map.{length-set_value}
use Rattle.std.specs.BTreeMap.{is_at}
use Rattle.std.specs.Map.{set_value}
use Rattle.std.specs.Ordering.{nat_cmp}
use Rattle.fabric_lemmas.specs.Maps.{put, rises}
use Rattle.fabric_lemmas.proofs.Maps.{rises-put}
use Rattle.keep_log.proofs.MapEntries.{rises_from-set}
use Rattle.ring_points.specs.Limits.{most_partitions}
use Rattle.unit_rules.specs.ReplicaStates.{ReplicaState}
use Rattle.unit_desk.proofs.Puts.{length-put}
use Rattle.unit_replica.specs.Starts.{states_again}
use Rattle.unit_replica.specs.Tables.{IsTable, ReplicaStates}
use Rattle.unit_replica.proofs.Restarts.{fewer_again, rises-again}

-- a replica is written where one stands
pub set_fits : (k : ℕ) (w : ReplicaState) (es new : ReplicaStates) → new ≡ set_value (is_at (nat_cmp k)) es w → IsTable es → IsTable new
set_fits k w es new is t = record {
  rise = ap rises is ∙ (rises_from-set 0 k w es ∙ t.rise);
  few =
      let same : length new ≡ length es = ap (λ (m : ReplicaStates). length m) is ∙ length-set_value (is_at (nat_cmp k)) es w in
      let few : length es ≤ most_partitions = t.few in
      omega (arith, same, few);
}

-- a replica is made, for which there is room
pub put_fits : (k : ℕ) (x : ReplicaState) (es new : ReplicaStates) → new ≡ put k x es → length es < most_partitions → IsTable es → IsTable new
put_fits k x es new is room t = record {
  rise = ap rises is ∙ rises-put k x es t.rise;
  few =
      let same : length new ≡ length (put k x es) = ap (λ (m : ReplicaStates). length m) is in
      omega (arith, same, length-put k x es, room);
}

-- all replicas begin again
pub again_fits : (es new : ReplicaStates) → new ≡ states_again es → IsTable es → IsTable new
again_fits es new is t = record {
  rise = ap rises is ∙ rises-again es t.rise;
  few =
      let same : length new ≡ length (states_again es) = ap (λ (m : ReplicaStates). length m) is in
      let few : length es ≤ most_partitions = t.few in
      omega (arith, same, fewer_again es, few);
}

pub same_fits : (es new : ReplicaStates) → new ≡ es → IsTable es → IsTable new
same_fits es new is t = record {
  rise = ap rises is ∙ t.rise;
  few =
      let same : length new ≡ length es = ap (λ (m : ReplicaStates). length m) is in
      let few : length es ≤ most_partitions = t.few in
      omega (arith, same, few);
}
