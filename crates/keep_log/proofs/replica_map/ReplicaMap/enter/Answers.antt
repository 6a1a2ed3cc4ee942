use Rattle.std.proofs.Common.{ap, ◌∙◌}
use Rattle.fabric_lemmas.specs.Maps.{put, rises}
use Rattle.fabric_lemmas.proofs.Maps.{rises-put}
use Rattle.unit_rules.specs.Starts.{Replicas}
use Rattle.keep_log.proofs.MapEntries.{insert-is}
use Rattle.keep_log.proofs.replica_map.ReplicaMap.enter.Goals as goal

pub invariant_of-self-2 : goal.invariant_of-self-2
invariant_of-self-2 c =
    let es = c.self.inside.map.entries in
    ap rises (c.in_ok-insert.ensures.entries ∙ insert-is c.args.partition c.args.replica es)
    ∙ rises-put c.args.partition c.args.replica es c.self.invariant

pub returns : goal.returns
returns c =
    let es = c.self.inside.map.entries in
    c.in_ok-insert.ensures.entries
    ∙ (insert-is c.args.partition c.args.replica es ∙ ap (λ (m : Replicas). put c.args.partition c.args.replica m) c.self.view_is)
