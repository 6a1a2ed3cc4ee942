-- Small values for examples.
use Rattle.std.specs.Prelude.{ℕ, List, [], ◌∷◌, Option, Some, None}
use Rattle.ring_points.specs.declared.unit.Config.{Config}
use Rattle.ring_points.specs.declared.unit.Epoch.{Epoch}
use Rattle.ring_points.specs.declared.who.Who.{Who}
use Rattle.ring_points.specs.Whos.{node_instance}
use Rattle.replica_core.specs.declared.entry.Entry.{Entry}
use Rattle.replica_core.specs.declared.role.Role.{Role}
use Rattle.replica_core.specs.declared.role.Role.TheVariants.{IdleSecondary, Primary}
use Rattle.replica_core.specs.Replicas.{Replica}
use Rattle.unit_rules.specs.declared.progress.PeerProgress.{PeerProgress}
use Rattle.unit_rules.specs.declared.progress.CatchUp.{CatchUp}
use Rattle.unit_rules.specs.declared.reconfig.Standing.{Standing}
use Rattle.unit_rules.specs.ReplicaStates.{ReplicaState, ReplicationProgress}

abbrev pub epoch : ℕ → ℕ → Epoch
epoch data_loss configuration = record { data_loss = data_loss; configuration = configuration }

-- three epochs after one another

abbrev pub e1 : Epoch
e1 = epoch 0 1

abbrev pub e2 : Epoch
e2 = epoch 0 2

abbrev pub e3 : Epoch
e3 = epoch 0 3

-- who asks the replica

abbrev pub asker : Who
asker = node_instance 9 1

-- an entry of the first epoch, with its number as its only byte
abbrev pub entry : ℕ → Entry
entry lsn = record { epoch = e1; lsn = lsn; bytes = lsn ∷ [] }

-- a replica of partition 1 with two entries
abbrev pub replica : Epoch → Epoch → Role → List Entry → Replica
replica promised at role collected =
    record { partition = 1; promised = promised; at = at; log = entry 1 ∷ entry 2 ∷ []; role = role; collected = collected }

-- the same, with nothing collected, at its node
abbrev pub state : Epoch → Epoch → Role → ReplicaState
state promised at role = record { replica = replica promised at role []; catch_up = None; progress = None }

abbrev pub peer : ℕ → ℕ → ℕ → PeerProgress
peer node confirmed next = record { node = node; confirmed = confirmed; next = next }

-- what it knows of these members, with its entries committed up to this one; at its activation it had none
abbrev pub progress : List PeerProgress → ℕ → Option ReplicationProgress
progress peers committed = Some (record { peers = peers; begun = 0; committed = committed })

-- the primary of the first epoch, which knows this
abbrev pub leading : List PeerProgress → ℕ → ReplicaState
leading peers committed = record (state e1 e1 Primary) { progress = progress peers committed }

-- the same, which had its entries up to this one at its activation, and has reported none committed since
abbrev pub begun_with : List PeerProgress → ℕ → ReplicaState
begun_with peers last = record (state e1 e1 Primary) { progress = Some (record { peers = peers; begun = last; committed = last }) }

-- a Sync of an epoch, to the log of the origin up to its last entry
abbrev pub catch_up : Epoch → ℕ → ℕ → CatchUp
catch_up epoch origin last = record { epoch = epoch; origin = origin; last = last; asker = asker }

-- a replica that takes the log of node 5, which has two entries, and has collected these
abbrev pub collecting : List Entry → ReplicaState
collecting entries = record { replica = replica e2 e1 IdleSecondary entries; catch_up = Some (catch_up e2 5 2); progress = None }

-- a configuration of partition 1
abbrev pub config : Epoch → ℕ → List ℕ → Config
config epoch primary members = record { partition = 1; epoch = epoch; primary = primary; members = members }

abbrev pub standing : Epoch → ℕ → Standing
standing at last = record { at = at; last = last }
