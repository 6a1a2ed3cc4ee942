-- The replicas of a node by partition, and the rows at them.
use Rattle.std.specs.Prelude.{◌≡◌, ℕ, ◌≤◌, true, List, Option, Some, None, length, flat_map, unwrap_or}
use Rattle.fabric_lemmas.specs.Maps.{at, put, rises}
use Rattle.fabric_terms.specs.declared.message.Body.{Body}
use Rattle.fabric_terms.specs.declared.message.Body.TheVariants as body
use Rattle.fabric_terms.specs.declared.report.Reason.TheVariants as reason
use Rattle.fabric_terms.specs.declared.report.Verb.TheVariants as verb
use Rattle.ring_points.specs.Limits.{most_partitions}
use Rattle.ring_points.specs.declared.interval.Interval.{Interval}
use Rattle.ring_points.specs.declared.who.Who.{Who}
use Rattle.unit_rules.specs.Deeds.{Deed, Acted, acted, refuse, still}
use Rattle.replica_core.specs.Replicas.{Replica}
use Rattle.unit_rules.specs.ReplicaStates.{ReplicaState, first_state}
use Rattle.unit_rules.specs.Promises.{promise_received}
use Rattle.unit_rules.specs.Copies.{fetch_received, piece_received, sync_received}
use Rattle.unit_rules.specs.Activations.{activate_received}
use Rattle.unit_rules.specs.Answers.{names_commanded, resolve_commanded}
use Rattle.unit_rules.specs.Writes.{append_received, appended_received, state_fired, write_commanded}

-- by partition, rising
abbrev pub ReplicaStates : Type 0
ReplicaStates = List (ℕ × ReplicaState)

-- they rise by partition, and are no more than there are partitions
pub record IsTable (states : ReplicaStates) : Type 0 where
  pub rise : rises states ≡ true
  pub few : length states ≤ most_partitions

abbrev pub replica_of_state : Option ReplicaState → Option Replica
replica_of_state None = None
replica_of_state (Some state) = Some state.replica

-- the partition's replica, if there is one
abbrev pub replica_at : ℕ → ReplicaStates → Option Replica
replica_at partition states = replica_of_state (at partition states)

-- what was done at the replica of a partition
abbrev pub by_state : ℕ → ReplicaStates → Acted ReplicaState → Acted ReplicaStates
by_state partition states a = acted (put partition a.state states) a.deeds

-- a row at the partition's replica, which begins with the first such row
abbrev pub at_state : ℕ → (ReplicaState → Acted ReplicaState) → ReplicaStates → Acted ReplicaStates
at_state partition row states = by_state partition states (row (unwrap_or (at partition states) (first_state partition)))

-- a row at the replica that was found, or else this
abbrev pub at_found : ℕ → (ReplicaState → Acted ReplicaState) → Acted ReplicaStates → ReplicaStates → Option ReplicaState → Acted ReplicaStates
at_found partition row none states None = none
at_found partition row none states (Some state) = by_state partition states (row state)

abbrev pub at_standing : ℕ → (ReplicaState → Acted ReplicaState) → Acted ReplicaStates → ReplicaStates → Acted ReplicaStates
at_standing partition row none states = at_found partition row none states (at partition states)

-- the row of a frame to a replica; a frame of another kind is none
abbrev pub row_of : ℕ → Who → Body → ReplicaState → Acted ReplicaState
row_of me x (body.Promise partition epoch) s = promise_received x epoch s
row_of me x (body.Sync partition epoch origin last) s = sync_received me (record { epoch = epoch; origin = origin; last = last; asker = x }) s
row_of me x (body.Fetch partition epoch lsn) s = fetch_received x epoch lsn s
row_of me x (body.Piece partition epoch lsn entry_epoch text) s = piece_received epoch (record { epoch = entry_epoch; lsn = lsn; bytes = text }) s
row_of me x (body.Activate config) s = activate_received me x config s
row_of me x (body.Append partition epoch lsn text) s = append_received x epoch lsn text s
row_of me x (body.Appended partition epoch last) s = appended_received x.actor epoch last s
row_of me x _ s = still s

-- a frame at the replica of its partition; some frames make the replica, others need one
abbrev pub frame_at : ℕ → Who → Body → ReplicaStates → Acted ReplicaStates
frame_at me x (body.Promise partition epoch) states = at_state partition (row_of me x (body.Promise partition epoch)) states
frame_at me x (body.Sync partition epoch origin last) states = at_state partition (row_of me x (body.Sync partition epoch origin last)) states
frame_at me x (body.Fetch partition epoch lsn) states = at_standing partition (row_of me x (body.Fetch partition epoch lsn)) (still states) states
frame_at me x (body.Piece partition epoch lsn entry_epoch text) states =
    at_standing partition (row_of me x (body.Piece partition epoch lsn entry_epoch text)) (still states) states
frame_at me x (body.Activate config) states = at_state config.partition (row_of me x (body.Activate config)) states
frame_at me x (body.Append partition epoch lsn text) states = at_state partition (row_of me x (body.Append partition epoch lsn text)) states
frame_at me x (body.Appended partition epoch last) states = at_standing partition (row_of me x (body.Appended partition epoch last)) (still states) states
frame_at me x _ states = still states

-- a write at the replica of a partition; where none stands it is refused
abbrev pub write_at : ℕ → List ℕ → ReplicaStates → Acted ReplicaStates
write_at partition text states = at_standing partition (write_commanded text) (refuse verb.Write reason.NotPrimary states) states

-- questions about names at the replica of a partition

abbrev pub resolve_at : ℕ → List ℕ → ReplicaStates → Acted ReplicaStates
resolve_at partition name states = at_standing partition (resolve_commanded name) (refuse verb.Resolve reason.NotPrimary states) states

abbrev pub list_at : ℕ → Interval → ReplicaStates → Acted ReplicaStates
list_at partition range states = at_standing partition (names_commanded range) (refuse verb.Names reason.NotPrimary states) states

-- a firing: the replicas by rising partition
abbrev pub fired : ReplicaStates → List Deed
fired states = flat_map (λ e. state_fired e.1) states
