-- The replicas of a node at its start: what its records amount to.
use Rattle.std.specs.Prelude.{ℕ, ◌+◌, Bool, ◌||◌, ◌==◌, List, [], ◌∷◌, map, unwrap_or, if◌then◌else◌}
use Rattle.ring_points.specs.Limits.{most_log_entries}
use Rattle.ring_points.specs.declared.unit.Epoch.{Epoch}
use Rattle.fabric_lemmas.specs.Maps.{at, put}
use Rattle.fabric_terms.specs.declared.record.Record.{Record}
use Rattle.fabric_terms.specs.declared.record.Record.TheVariants.{Boot, PromisedAt, Wrote, Incoming, AdoptedAt}
use Rattle.replica_core.specs.declared.refusal.Done.{Done}
use Rattle.replica_core.specs.Replicas.{Replica, first_replica, uncollected}
use Rattle.replica_core.specs.Calls.{Outcome, promise_call, append_call, adopt_own_call, adopt_call, adopt_collected_call}
use Rattle.unit_rules.specs.ReplicaStates.{ReplicaState, first_state, replica_put}

-- by partition
abbrev pub Replicas : Type 0
Replicas = List (ℕ × Replica)

abbrev pub replica_of : ℕ → Replicas → Replica
replica_of partition rs = unwrap_or (at partition rs) (first_replica partition)

-- the partition's replica after a call
abbrev pub called : ℕ → (Replica → Outcome Done) → Replicas → Replicas
called partition call rs = put partition (call (replica_of partition rs)).1 rs

-- a start ends every collection
abbrev pub without_collected : Replicas → Replicas
without_collected rs = map (λ e. (e.0, uncollected e.1)) rs

-- more than any entry of a log, so that an entry is only collected
abbrev pub past_all : ℕ
past_all = most_log_entries + 1

-- the own log is adopted, or none, or what was collected
abbrev pub adopt_kept : Epoch → ℕ → (is_own : Bool) → Replica → Outcome Done
adopt_kept epoch last is_own r = if is_own || last == 0 then adopt_own_call epoch last r else adopt_collected_call epoch r

abbrev pub replicas_after : Replicas → Record → Replicas
replicas_after rs (Boot instance) = without_collected rs
replicas_after rs (PromisedAt partition epoch) = called partition (promise_call epoch) rs
replicas_after rs (Wrote partition epoch lsn text) = called partition (append_call epoch lsn text) rs
replicas_after rs (Incoming partition epoch lsn entry_epoch text) =
    called partition (adopt_call epoch (record { epoch = entry_epoch; lsn = lsn; bytes = text }) past_all) rs
replicas_after rs (AdoptedAt partition epoch last is_own) = called partition (adopt_kept epoch last is_own) rs
replicas_after rs _ = rs

-- after these records, in their order
abbrev pub replicas_after_all : Replicas → List Record → Replicas
replicas_after_all rs [] = rs
replicas_after_all rs (r ∷ more) = replicas_after_all (replicas_after rs r) more

-- the replicas that the records name; none has a role, or collects anything
abbrev pub states_begun : List Record → List (ℕ × ReplicaState)
states_begun records = map (λ e. (e.0, replica_put (first_state e.0) e.1)) (without_collected (replicas_after_all [] records))
