use Rattle.std.proofs.Common.{sym, ap, ◌∙◌}
use Rattle.std.specs.Prelude.{is_some}
use Rattle.fabric_lemmas.specs.Maps.{at}
use Rattle.unit_rules.specs.Starts.{Replicas}
use Rattle.keep_log.proofs.MapEntries.{lookup-is}
use Rattle.keep_log.proofs.replica_map.ReplicaMap.take.Goals as goal

pub take_standing-requires-clause-there : goal.take_standing-requires-clause-there
take_standing-requires-clause-there c =
    let es = c.self.inside.map.entries in
    ap (λ (m : Replicas). is_some (at c.args.partition m)) (sym c.self.view_is)
    ∙ (ap is_some (sym (lookup-is c.args.partition es)) ∙ (sym c.contains_key.ensures ∙ c.if-contains_key.true))

pub take_first-requires-clause-none : goal.take_first-requires-clause-none
take_first-requires-clause-none c =
    let es = c.self.inside.map.entries in
    ap (λ (m : Replicas). is_some (at c.args.partition m)) (sym c.self.view_is)
    ∙ (ap is_some (sym (lookup-is c.args.partition es)) ∙ (sym c.contains_key.ensures ∙ c.if-contains_key.false))
