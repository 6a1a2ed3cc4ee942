use Rattle.std.proofs.Common.{◌∙◌, ℕ, ap}
use Rattle.fabric_lemmas.specs.Maps.{put}
use Rattle.keep_log.proofs.MapEntries.{insert-is}
use Rattle.replica_core.specs.Replicas.{Replica}
use Rattle.unit_replica.specs.Starts.{bare_state}
use Rattle.unit_replica.proofs.boot.state_one.Goals as goal

pub returns-in-Ok-clause-replica_put : goal.returns-in-Ok-clause-replica_put
returns-in-Ok-clause-replica_put c =
    let es = c.args.map.now.entries in
    c.in-Ok.ensures.entries
    ∙ (insert-is c.partition-partition.result (bare_state c.of.result) es
    ∙ (ap (λ (n : ℕ). put n (bare_state c.of.result) es) c.partition-partition.ensures
    ∙ ap (λ (r : Replica). put c.args.replica.partition (bare_state r) es) c.of.ensures))
