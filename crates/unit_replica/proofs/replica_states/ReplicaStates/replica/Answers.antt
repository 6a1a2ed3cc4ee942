use Rattle.std.proofs.Common.{◌≡◌, ◌∙◌, Some, None, ap, sym}
use Rattle.std.specs.Option.{option_copied}
use Rattle.fabric_lemmas.specs.Maps.{at}
use Rattle.keep_log.proofs.MapEntries.{lookup-is}
use Rattle.replica_core.specs.Replicas.{Replica}
use Rattle.unit_rules.specs.ReplicaStates.{ReplicaState}
use Rattle.unit_replica.specs.Tables.{ReplicaStates, replica_at, replica_of_state}
use Rattle.unit_replica.proofs.replica_states.ReplicaStates.replica.Goals as goal

pub returns-in-Some : goal.returns-in-Some
returns-in-Some c =
    let es = c.self.inside.map.entries in
    let found : at c.args.partition es ≡ Some c.in-Some.state.now =
    sym (lookup-is c.args.partition es) ∙ (sym c.get.ensures.value ∙ ap option_copied c.in-Some.is) in
    ap (λ (r : Replica). Some r) c.replica.ensures
    ∙ (ap (λ (s : ReplicaState). replica_of_state (Some s)) c.state.view_is
    ∙ (ap replica_of_state (sym found) ∙ ap (λ (m : ReplicaStates). replica_at c.args.partition m) c.self.view_is))

pub returns-in-None : goal.returns-in-None
returns-in-None c =
    let es = c.self.inside.map.entries in
    let none : at c.args.partition es ≡ None =
    sym (lookup-is c.args.partition es) ∙ (sym c.get.ensures.value ∙ ap option_copied c.in-None.is) in
    ap replica_of_state (sym none) ∙ ap (λ (m : ReplicaStates). replica_at c.args.partition m) c.self.view_is
