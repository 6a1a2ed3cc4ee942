-- Sync, Fetch, Piece: a replica takes the log of an epoch.
use Rattle.std.specs.Prelude.{ℕ, ◌+◌, Bool, true, false, not, ◌&&◌, ◌||◌, ◌==◌, List, [], ◌∷◌, length, Option, Some, None, Ok, Err, nat_le, if◌then◌else◌}
use Rattle.ring_points.specs.declared.unit.Epoch.{Epoch}
use Rattle.ring_points.specs.declared.who.Who.{Who}
use Rattle.ring_points.specs.Epochs.{same_epoch}
use Rattle.ring_points.specs.Whos.{node_instance}
use Rattle.fabric_terms.specs.declared.message.Body.TheVariants as body
use Rattle.fabric_terms.specs.declared.record.Record.TheVariants as kept
use Rattle.fabric_terms.specs.declared.report.Report.TheVariants as report
use Rattle.replica_core.specs.declared.entry.Entry.{Entry}
use Rattle.replica_core.specs.declared.refusal.Done.{Done}
use Rattle.replica_core.specs.Replicas.{Replica}
use Rattle.replica_core.specs.Calls.{Outcome, promise_call, idle_call, adopt_own_call, adopt_call}
use Rattle.unit_rules.specs.declared.progress.CatchUp.{CatchUp}
use Rattle.unit_rules.specs.Deeds.{Deed, Keep, Send, Tell, Acted, acted, after_deeds, still}
use Rattle.unit_rules.specs.ReplicaStates.{ReplicaState, replica_put, last_of, entry_at}
use Rattle.unit_rules.specs.Promises.{say_older, raise_told}

-- The log is that of the epoch now, which is recorded, told and answered. An empty log is not told, and is nobody's own.

abbrev pub nothing_adopted : ℕ → CatchUp → List Deed
nothing_adopted partition t =
    Keep (kept.AdoptedAt partition t.epoch t.last false)
    ∷ Send t.asker (body.Adopted partition t.epoch t.last) ∷ []

abbrev pub log_adopted : ℕ → CatchUp → (is_own : Bool) → List Deed
log_adopted partition t is_own =
    Keep (kept.AdoptedAt partition t.epoch t.last is_own)
    ∷ Tell (report.Adopted partition t.epoch t.last)
    ∷ Send t.asker (body.Adopted partition t.epoch t.last) ∷ []

abbrev pub adoption : ℕ → CatchUp → (is_own : Bool) → List Deed
adoption partition t is_own = if t.last == 0 then nothing_adopted partition t else log_adopted partition t is_own

-- the next entry of the log is asked for at its origin
abbrev pub fetch_next : CatchUp → Replica → Deed
fetch_next t r = Send (node_instance t.origin 0) (body.Fetch r.partition t.epoch (length r.collected + 1))

-- Sync: the epoch is promised, and its log is taken: none or the own one at once, that of another entry by entry.

-- of an own log with another end nothing comes
abbrev pub own_adopted : CatchUp → ReplicaState → Outcome Done → Acted ReplicaState
own_adopted t s (Err refusal, r) = still s
own_adopted t s (Ok done, r) = acted (replica_put s r) (adoption r.partition t true)

abbrev pub log_taken : ℕ → CatchUp → ReplicaState → Acted ReplicaState
log_taken me t s =
    if t.last == 0 || t.origin == me then own_adopted t s (adopt_own_call t.epoch t.last s.replica)
    else acted s (fetch_next t s.replica ∷ [])

-- the replica is idle until it has its role
abbrev pub copy_begun : ℕ → CatchUp → ReplicaState → Acted ReplicaState
copy_begun me t s = log_taken me t (record s { replica = (idle_call t.epoch s.replica).1; catch_up = Some t })

-- where the log is of the epoch already, that is answered, and the role stays
abbrev pub sync_taken : ℕ → CatchUp → ReplicaState → Acted ReplicaState
sync_taken me t s =
    if same_epoch s.replica.at t.epoch then acted s (Send t.asker (body.Adopted s.replica.partition t.epoch (last_of s.replica)) ∷ [])
    else copy_begun me t s

abbrev pub sync_answered : ℕ → CatchUp → ReplicaState → Outcome Done → Acted ReplicaState
sync_answered me t s (Err refusal, r) = acted s (say_older t.asker r.partition t.epoch refusal)
sync_answered me t s (Ok done, r) = after_deeds (raise_told r.partition t.epoch done) (sync_taken me t (replica_put s r))

unfoldable pub sync_received : ℕ → CatchUp → ReplicaState → Acted ReplicaState
sync_received me t s = sync_answered me t s (promise_call t.epoch s.replica)

-- Fetch: an entry of the log is given to who asks in the promised epoch.

abbrev pub entry_given : Who → Epoch → ReplicaState → Option Entry → Acted ReplicaState
entry_given asker epoch s None = still s
entry_given asker epoch s (Some entry) = acted s (Send asker (body.Piece s.replica.partition epoch entry.lsn entry.epoch entry.bytes) ∷ [])

unfoldable pub fetch_received : Who → Epoch → ℕ → ReplicaState → Acted ReplicaState
fetch_received asker epoch lsn s =
    if same_epoch s.replica.promised epoch then entry_given asker epoch s (entry_at lsn s.replica.log) else still s

-- Piece: an entry of the Sync that was taken last is collected; with the last one, what is collected becomes the log.

-- what follows an entry that was collected
abbrev pub copy_goes_on : CatchUp → ℕ → Replica → List Deed
copy_goes_on t lsn r = if lsn == t.last then adoption r.partition t false else fetch_next t r ∷ []

abbrev pub piece_collected : CatchUp → Entry → ReplicaState → Outcome Done → Acted ReplicaState
piece_collected t entry s (Err refusal, r) = still s
piece_collected t entry s (Ok done, r) =
    acted (replica_put s r) (Keep (kept.Incoming r.partition t.epoch entry.lsn entry.epoch entry.bytes) ∷ copy_goes_on t entry.lsn r)

-- the entry is one of this Sync's epoch and log, which is not taken yet
abbrev pub is_wanted : CatchUp → Epoch → ℕ → Replica → Bool
is_wanted t epoch lsn r = same_epoch t.epoch epoch && not (same_epoch r.at epoch) && nat_le 1 lsn && nat_le lsn t.last

abbrev pub piece_for : Epoch → Entry → ReplicaState → Option CatchUp → Acted ReplicaState
piece_for epoch entry s None = still s
piece_for epoch entry s (Some t) =
    if is_wanted t epoch entry.lsn s.replica then piece_collected t entry s (adopt_call t.epoch entry t.last s.replica) else still s

unfoldable pub piece_received : Epoch → Entry → ReplicaState → Acted ReplicaState
piece_received epoch entry s = piece_for epoch entry s s.catch_up
