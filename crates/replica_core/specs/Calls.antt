-- What each call on a replica answers, and what it makes of it.
use Rattle.std.specs.Prelude.{◌≡◌, ◌≢◌, ℕ, ◌+◌, Bool, true, false, not, ◌&&◌, ◌||◌, ◌==◌, nat_lt, List, [], ◌∷◌, length, Result, Ok, Err, if◌then◌else◌}
use Rattle.ring_points.specs.Limits.{most_log_entries}
use Rattle.ring_points.specs.declared.unit.Config.{Config}
use Rattle.ring_points.specs.declared.unit.Epoch.{Epoch}
use Rattle.ring_points.specs.Epochs.{is_older, same_epoch}
use Rattle.replica_core.specs.declared.entry.Entry.{Entry}
use Rattle.replica_core.specs.declared.refusal.Done.{Done}
use Rattle.replica_core.specs.declared.refusal.Done.TheVariants.{New, Held}
use Rattle.replica_core.specs.declared.refusal.ReplicaRefusal.{ReplicaRefusal}
use Rattle.replica_core.specs.declared.refusal.ReplicaRefusal.TheVariants.{Older, NotMember, Gap, LogFull, OutOfMemory}
use Rattle.replica_core.specs.declared.role.Role.{Role}
use Rattle.replica_core.specs.declared.role.Role.TheVariants.{IdleSecondary}
use Rattle.replica_core.specs.Roles.{is_idle, is_member, role_of}
use Rattle.replica_core.specs.Replicas.{Replica, same_entry, raised, written, adopted, settled, collected_in, collecting}

-- the answer of a call, and the replica after it
abbrev pub Outcome : Type 0 → Type 0
Outcome A = Result A ReplicaRefusal × Replica

-- the first refusal whose test holds; it changes nothing
abbrev pub unless : {A : Type 0} → Bool → ReplicaRefusal → Replica → Outcome A → Outcome A
unless true refusal s next = (Err refusal, s)
unless false refusal s next = next

-- an epoch is admitted unless a greater one is promised
abbrev pub admission : Epoch → Replica → Result (Unit {0}) ReplicaRefusal
admission e s = if is_older e s.promised then Err (Older s.promised) else Ok tt

-- every call is refused where a greater epoch is promised
abbrev pub unless_older : {A : Type 0} → Epoch → Replica → Outcome A → Outcome A
unless_older e s next = unless (is_older e s.promised) (Older s.promised) s next

-- nothing is to be done where the test holds
abbrev pub held_if : Bool → Replica → Outcome Done → Outcome Done
held_if true s next = (Ok Held, s)
held_if false s next = next

abbrev pub promise_call : Epoch → Replica → Outcome Done
promise_call e s = unless_older e s (held_if (same_epoch s.promised e) s (Ok New, raised e s))

-- the log is not of the epoch, or entries are missing before this one
abbrev pub is_ahead : Epoch → ℕ → Replica → Bool
is_ahead e lsn s = not (same_epoch s.at e) || nat_lt (length s.log + 1) lsn

abbrev pub append_call : Epoch → ℕ → List ℕ → Replica → Outcome Done
append_call e lsn bytes s =
    unless_older e s (
    unless (is_ahead e lsn s) (Gap (length s.log)) s (
    held_if (nat_lt lsn (length s.log + 1)) s (
    unless (length s.log == most_log_entries) LogFull s (Ok New, written (record { epoch = e; lsn = lsn; bytes = bytes }) s))))

abbrev pub own_adopted : Bool → Bool → Epoch → Replica → Outcome Done
own_adopted true whole e s = (Ok New, adopted e [] s)
own_adopted false true e s = (Ok New, adopted e s.log s)
own_adopted false false e s = (Err (Gap (length s.log)), s)

-- the own log up to its last entry, or the empty log
abbrev pub adopt_own_call : Epoch → ℕ → Replica → Outcome Done
adopt_own_call e last s =
    unless_older e s (held_if (same_epoch s.at e) s (own_adopted (last == 0) (last == length s.log) e s))

-- the entry is neither a first one nor the next of those that are collected
abbrev pub is_gap : Epoch → ℕ → Replica → Bool
is_gap e lsn s = not (lsn == 1) && not (lsn == length (collected_in e s) + 1)

-- this is the one entry that is collected
abbrev pub is_only : Entry → List Entry → Bool
is_only entry [] = false
is_only entry (x ∷ []) = same_entry entry x
is_only entry (x ∷ (y ∷ rest)) = false

-- all of this was collected before, and begins anew with the same
abbrev pub is_collected : Epoch → Entry → Replica → Bool
is_collected e entry s = same_epoch s.promised e && (entry.lsn == 1 && is_only entry s.collected)

-- the last entry makes what is collected the log
abbrev pub collected_call : Bool → Epoch → Entry → Replica → Outcome Done
collected_call true e entry s = (Ok New, settled e (collecting e entry s))
collected_call false e entry s = held_if (is_collected e entry s) s (Ok New, collecting e entry s)

abbrev pub adopt_call : Epoch → Entry → ℕ → Replica → Outcome Done
adopt_call e entry last s =
    unless_older e s (
    held_if (same_epoch s.at e) s (
    unless (is_gap e entry.lsn s) (Gap (length (collected_in e s))) s (collected_call (entry.lsn == last) e entry s)))

abbrev pub is_empty : List Entry → Bool
is_empty [] = true
is_empty (entry ∷ entries) = false

abbrev pub adopt_collected_call : Epoch → Replica → Outcome Done
adopt_collected_call e s =
    unless_older e s (
    held_if (same_epoch s.at e) s (
    unless (is_empty (collected_in e s)) (Gap 0) s (Ok New, settled e (raised e s))))

abbrev pub idle_call : Epoch → Replica → Outcome Done
idle_call e s =
    unless_older e s (
    held_if (same_epoch s.promised e && is_idle s.role) s (Ok New, record (raised e s) { role = IdleSecondary }))

abbrev pub activate_call : ℕ → Config → Replica → Outcome Role
activate_call me config s =
    unless_older config.epoch s (
    unless (not (is_member me config)) NotMember s (
    unless (not (same_epoch s.at config.epoch)) (Gap (length s.log)) s (Ok (role_of me config), record (raised config.epoch s) { role = role_of me config })))

-- the outcome is the one that is defined, but for want of memory; a refusal changes nothing
abbrev pub Answers : {A : Type 0} → Outcome A → Replica → Replica → Result A ReplicaRefusal → Type 0
Answers defined old new (Ok done) = defined ≡ (Ok done, new)
Answers defined old new (Err e) = (new ≡ old) × (e ≢ OutOfMemory → defined ≡ (Err e, old))
