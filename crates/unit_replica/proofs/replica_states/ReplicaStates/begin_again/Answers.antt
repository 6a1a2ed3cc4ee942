use Rattle.std.proofs.Common.{◌≡◌, ◌∙◌, filter, map, ap, rules}
use Rattle.std.proofs.lemmas.Map.Made.{filter_same_pairs, map_same_pairs}
use Rattle.unit_replica.specs.Starts.{is_recorded, state_again, states_again}
use Rattle.unit_replica.specs.Tables.{ReplicaStates}
use Rattle.unit_replica.proofs.Counts.{again_fits}
use Rattle.unit_replica.proofs.replica_states.ReplicaStates.begin_again.Goals as goal

left : (c : goal.After-retain-2) → c.retain-2.new.self.entries ≡ states_again c.self.inside.map.entries
left c =
    let es : ReplicaStates = c.self.inside.map.entries in
    let mid : c.retain.new.self.entries ≡ map (λ e. (e.0, state_again e.1)) es =
    map_same_pairs _ state_again _ (λ k v b w f' t. search rules) es c.retain.new.self.entries c.retain.ensures.filtered in
    filter_same_pairs _ (λ e. is_recorded e.1.replica) _ (λ k v b w f' t. search rules) c.retain.new.self.entries c.retain-2.new.self.entries c.retain-2.ensures.filtered
    ∙ ap (λ (m : ReplicaStates). filter (λ e. is_recorded e.1.replica) m) mid

pub invariant_of-self : goal.invariant_of-self
invariant_of-self c = again_fits c.self.inside.map.entries c.retain-2.new.self.entries (left c) c.self.invariant

pub returns : goal.returns
returns c = left c ∙ ap states_again c.self.view_is
