-- A replica at its node whose epochs, entries and peers a frame can carry.
use Rattle.std.specs.Prelude.{ℕ, ◌≤◌, List, length, Option, Some, None, All, IsTrue}
use Rattle.fabric_terms.specs.Fields.{is_epoch, is_last, is_node, is_payload, is_sender, is_short}
use Rattle.replica_core.specs.declared.entry.Entry.{Entry}
use Rattle.replica_core.specs.Replicas.{Replica}
use Rattle.unit_rules.specs.declared.progress.PeerProgress.{PeerProgress}
use Rattle.unit_rules.specs.declared.progress.CatchUp.{CatchUp}
use Rattle.unit_rules.specs.ReplicaStates.{ReplicationProgress, ReplicaState}

-- The replica.

pub record EntryInRange (entry : Entry) : Type 0 where
  pub epoch : IsTrue (is_epoch entry.epoch)
  pub lsn : IsTrue (is_last entry.lsn)
  pub bytes : IsTrue (is_payload entry.bytes)

-- at most 100,000 entries
pub record LogInRange (log : List Entry) : Type 0 where
  pub entries : All EntryInRange log
  pub room : length log ≤ 100000

pub record ReplicaInRange (r : Replica) : Type 0 where
  pub partition : IsTrue (is_short r.partition)
  pub promised : IsTrue (is_epoch r.promised)
  pub at : IsTrue (is_epoch r.at)
  pub log : LogInRange r.log
  pub collected : LogInRange r.collected

-- The Sync that it took last.

pub record CatchUpInRange (t : CatchUp) : Type 0 where
  pub epoch : IsTrue (is_epoch t.epoch)
  pub origin : IsTrue (is_node t.origin)
  pub last : IsTrue (is_last t.last)
  pub asker : IsTrue (is_sender t.asker)

abbrev pub TookInRange : Option CatchUp → Type 0
TookInRange None = Unit {0}
TookInRange (Some t) = CatchUpInRange t

-- What it knows as a primary.

-- what comes next may be one above all numbers of four bytes
pub record PeerInRange (p : PeerProgress) : Type 0 where
  pub node : IsTrue (is_node p.node)
  pub confirmed : IsTrue (is_last p.confirmed)
  pub next : p.next ≤ 4294967296

pub record ProgressInRange (l : ReplicationProgress) : Type 0 where
  pub peers : All PeerInRange l.peers
  pub committed : IsTrue (is_last l.committed)

abbrev pub PrimaryProgressInRange : Option ReplicationProgress → Type 0
PrimaryProgressInRange None = Unit {0}
PrimaryProgressInRange (Some l) = ProgressInRange l

pub record ReplicaStateInRange (s : ReplicaState) : Type 0 where
  pub replica : ReplicaInRange s.replica
  pub catch_up : TookInRange s.catch_up
  pub progress : PrimaryProgressInRange s.progress

-- the replicas by partition
abbrev pub ReplicaStatesInRange : List (ℕ × ReplicaState) → Type 0
ReplicaStatesInRange states = All (λ e. ReplicaStateInRange e.1) states
