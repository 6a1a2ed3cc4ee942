-- A firing above the ring only sends.
use Rattle.std.proofs.Common.{◌≡◌, ℕ, Bool, true, false, List, [], ◌∷◌, ◌++◌, Option, Some, None, refl, ◌∙◌}
use Rattle.std.specs.Prelude.{flat_map}
use Rattle.replica_core.specs.Replicas.{Replica}
use Rattle.replica_core.specs.declared.entry.Entry.{Entry}
use Rattle.ring_rules.specs.declared.input.Input.TheVariants as input
use Rattle.ring_rules.specs.Rings.{Ring}
use Rattle.unit_desk.proofs.Deeds.{records_of-append, reports_of-append}
use Rattle.unit_rules.specs.declared.progress.PeerProgress.{PeerProgress}
use Rattle.unit_rules.specs.Deeds.{Deed, records_of, reports_of}
use Rattle.unit_rules.specs.Progress.{progress_of}
use Rattle.unit_rules.specs.Loads.{Site}
use Rattle.unit_rules.specs.Questions.{asks, awaited, reconfig_fired}
use Rattle.unit_rules.specs.Reconfigs.{Reconfig}
use Rattle.unit_rules.specs.ReplicaStates.{ReplicationProgress, ReplicaState, entry_at}
use Rattle.unit_rules.specs.Steps.{Failover, failover_step}
use Rattle.unit_rules.specs.Writes.{entry_sent, progress_fired, state_fired}
use Rattle.node_core.specs.Rows.{row_if}

-- nothing is recorded, and nothing told
pub record OnlySends (ds : List Deed) : Type 0 where
  pub records : records_of ds ≡ []
  pub told : reports_of ds ≡ []

nothing_sent : OnlySends []
nothing_sent = record { records = refl; told = refl }

more_sent : (first more : List Deed) → OnlySends first → OnlySends more → OnlySends (first ++ more)
more_sent first more a b = record {
  records = records_of-append first more ∙ rw (a.records, b.records) refl;
  told = reports_of-append first more ∙ rw (a.told, b.told) refl;
}

asks_send : (r : Reconfig) (actors : List ℕ) → OnlySends (asks r actors)
asks_send r [] = nothing_sent
asks_send r (a ∷ actors) = let more = asks_send r actors in record { records = more.records; told = more.told }

reconfig_sends : (r : Reconfig) → OnlySends (reconfig_fired r)
unfolding reconfig_fired
reconfig_sends r = asks_send r (awaited r)

reconfigs_send : (es : List (ℕ × Reconfig)) → OnlySends (flat_map (λ e. reconfig_fired e.1) es)
reconfigs_send [] = nothing_sent
reconfigs_send (e ∷ es) = more_sent (reconfig_fired e.1) (flat_map (λ e. reconfig_fired e.1) es) (reconfig_sends e.1) (reconfigs_send es)

entry_sends : (r : Replica) (p : PeerProgress) (e : Option Entry) → OnlySends (entry_sent r p e)
entry_sends r p None = nothing_sent
entry_sends r p (Some e) = record { records = refl; told = refl }

peers_send : (r : Replica) (ps : List PeerProgress) → OnlySends (flat_map (λ p. entry_sent r p (entry_at p.next r.log)) ps)
peers_send r [] = nothing_sent
peers_send r (p ∷ ps) = more_sent (entry_sent r p (entry_at p.next r.log)) (flat_map (λ p. entry_sent r p (entry_at p.next r.log)) ps) (entry_sends r p (entry_at p.next r.log)) (peers_send r ps)

progress_sends : (r : Replica) (l : Option ReplicationProgress) → OnlySends (progress_fired r l)
progress_sends r None = nothing_sent
progress_sends r (Some l) = peers_send r l.peers

state_sends : (s : ReplicaState) → OnlySends (state_fired s)
unfolding state_fired
state_sends s = progress_sends s.replica (progress_of s)

states_send : (es : List (ℕ × ReplicaState)) → OnlySends (flat_map (λ e. state_fired e.1) es)
states_send [] = nothing_sent
states_send (e ∷ es) = more_sent (state_fired e.1) (flat_map (λ e. state_fired e.1) es) (state_sends e.1) (states_send es)

pub firing_sends : (c : Site) (now : ℕ) (r : Ring) (s : Failover) (b : Bool) → OnlySends (row_if b c now r s input.Fire).deeds
unfolding failover_step
firing_sends c now r s true = more_sent (flat_map (λ e. reconfig_fired e.1) s.managed.reconfigs) (flat_map (λ e. state_fired e.1) s.states) (reconfigs_send s.managed.reconfigs) (states_send s.states)
firing_sends c now r s false = nothing_sent
