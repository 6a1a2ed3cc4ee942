-- When a replica at its node is that of the machine.
--
-- A state shows the replica of its node: promise, epoch of the log, and the log are those of the machine, and what it has
-- collected is, as long as it may adopt. The Sync that it took last was sent. Where it leads, the machine has its role, and
-- each member said what the primary holds confirmed.
use Rattle.std.specs.Prelude.{◌≡◌, ℕ, ◌+◌, ◌<◌, ◌≤◌, ◌==◌, not, true, false, List, length, map, filter, Some, ◌⊎◌}
use Rattle.std.specs.List.{list_any}
use Rattle.fabric_lemmas.specs.Members.{IsMember}
use Rattle.ring_points.specs.Epochs.{is_older}
use Rattle.epoch_machine.specs.Logs.{Entry, IsAt}
use Rattle.epoch_machine.specs.Messages.{appended_by}
use Rattle.epoch_machine.specs.Plans.{Role}
use Rattle.epoch_machine.specs.World.{World}
use Rattle.unit_rules.specs.declared.progress.PeerProgress.{PeerProgress}
use Rattle.unit_rules.specs.declared.progress.CatchUp.{CatchUp}
use Rattle.unit_rules.specs.Progress.{is_primary, progress_of}
use Rattle.unit_rules.specs.ReplicaStates.{ReplicationProgress, ReplicaState}
use Rattle.epoch_refinement.specs.Epochs.{IsEpoch}
use Rattle.epoch_refinement.specs.Facts.{is_appended, Has}
use Rattle.epoch_refinement.specs.Shown.{ShownSync}

-- entries are numbered from 1, and their epochs are small
pub record IsNumbered (log : List Entry) : Type 0 where
  pub small : (place : ℕ) (x : Entry) → IsAt log place x → x.epoch.configuration < 4294967296
  pub lsn : (place : ℕ) (x : Entry) → IsAt log place x → x.lsn ≡ place + 1

-- the member has said that it has what is held confirmed of it, which the primary has too
abbrev pub IsConfirmed : World → Role → ℕ → PeerProgress → Type 0
IsConfirmed w r last peer = (peer.confirmed ≡ 0) ⊎ (Has w (is_appended (appended_by peer.node r.plan.epoch peer.confirmed)) × (peer.confirmed ≤ last))

-- a primary with so many entries: its peers are the other members; what it reported committed since its activation, if
-- anything, is what it holds committed
pub record ShowsProgress (w : World) (node last : ℕ) (l : ReplicationProgress) (r : Role) : Type 0 where
  pub role : w.role node ≡ Some r
  pub floor : r.floor ≤ l.committed
  pub reported : (r.reported ≡ 0) ⊎ (r.reported ≡ l.committed)
  pub member : list_any (λ m. m == node) r.plan.members ≡ true
  pub peers : map (λ q. q.node) l.peers ≡ filter (λ m. not (m == node)) r.plan.members
  pub confirmed : (q : PeerProgress) → IsMember q l.peers → IsConfirmed w r last q

-- the replica of this node in partition p
pub record ShowsReplicaState (w : World) (p node : ℕ) (s : ReplicaState) : Type 0 where
  pub partition : s.replica.partition ≡ p
  pub promised : IsEpoch (w.promised node) s.replica.promised
  pub joined : IsEpoch (w.joined node) s.replica.at
  pub log : w.log node ≡ s.replica.log
  pub room : length s.replica.log ≤ 100000
  pub collected : w.joined node < w.promised node → w.collected node ≡ s.replica.collected
  pub taken : (t : CatchUp) → s.catch_up ≡ Some t → ShownSync w t.epoch t.origin t.last
  pub reached : (t : CatchUp) (n : ℕ) → s.catch_up ≡ Some t → IsEpoch n t.epoch → n ≤ w.promised node
  pub numbered : IsNumbered s.replica.log
  pub numbered_collected : IsNumbered s.replica.collected
  -- who has promised more than the log's epoch is no primary
  pub idle : is_older s.replica.at s.replica.promised ≡ true → is_primary s.replica.role ≡ false
  pub progress : (l : ReplicationProgress) → progress_of s ≡ Some l → (r : Role) × ShowsProgress w node (length s.replica.log) l r
