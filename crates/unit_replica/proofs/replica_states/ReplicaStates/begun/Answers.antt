use Rattle.std.proofs.Common.{◌≡◌, ◌++◌, ◌∙◌, [], ap, length, arith}
use Rattle.std.proofs.lemmas.List.{length-map}
use Rattle.fabric_lemmas.specs.Maps.{rises}
use Rattle.unit_replica.specs.Starts.{states_from, states_of}
use Rattle.unit_replica.specs.Tables.{ReplicaStates}
use Rattle.unit_replica.proofs.Begun.{all_begun, given_back, rises-from}
use Rattle.unit_replica.proofs.replica_states.ReplicaStates.begun.Goals as goal
use Rattle.unit_replica.proofs.replica_states.ReplicaStates.begun.Goals.{After-end_collections}

-- what stands, where all were put in
begun : (c : After-end_collections) → c.end_collections.new.map.entries ≡ states_from c.args.replicas.now.items
begun c =
    let all = c.args.replicas.now.items in
    let moved : states_of c.state_all.new.replicas.items ++ c.state_all.new.map.entries ≡ states_of all ++ [] =
    c.state_all.ensures.moved ∙ ap (λ (m : ReplicaStates). states_of all ++ m) c.new-map.ensures.empty in
    all_begun c.state_all.new.replicas.items all c.state_all.new.map.entries c.end_collections.new.map.entries moved c.in-Ok.ensures.all c.end_collections.ensures

pub invariant_of-result : goal.invariant_of-result
invariant_of-result c =
    let all = c.args.replicas.now.items in
    let many : length c.end_collections.new.map.entries ≡ length all = ap length (begun c) ∙ length-map all _ in
    record {
      rise = ap rises (begun c) ∙ rises-from all c.requires;
      few = omega (arith, many, c.len.ensures, c.if-len-gt-MAX_PARTITIONS.false);
    }

pub returns-in-Ok-clause-begun : goal.returns-in-Ok-clause-begun
returns-in-Ok-clause-begun c = begun c

pub returns-in-Err-clause-refused : goal.returns-in-Err-clause-refused
returns-in-Err-clause-refused c =
    let all = c.args.replicas.now.items in
    let moved : states_of c.state_all.new.replicas.items ++ c.state_all.new.map.entries ≡ states_of all ++ [] =
    c.state_all.ensures.moved ∙ ap (λ (m : ReplicaStates). states_of all ++ m) c.new-map.ensures.empty in
    c.give_back.ensures ∙ given_back c.state_all.new.replicas.items all c.state_all.new.map.entries moved
