-- How writes go: write at the primary, Append at the other members, Appended back at the primary, and its firing.
use Rattle.std.specs.Prelude.{ℕ, ◌+◌, List, [], ◌∷◌, ◌++◌, map, flat_map, Option, Some, None, Ok, Err, nat_lt, if◌then◌else◌}
use Rattle.ring_points.specs.declared.unit.Epoch.{Epoch}
use Rattle.ring_points.specs.declared.who.Who.{Who}
use Rattle.ring_points.specs.Epochs.{same_epoch}
use Rattle.ring_points.specs.Whos.{node_instance}
use Rattle.fabric_terms.specs.declared.message.Body.TheVariants as body
use Rattle.fabric_terms.specs.declared.record.Record.TheVariants as kept
use Rattle.fabric_terms.specs.declared.report.Report.TheVariants as report
use Rattle.fabric_terms.specs.declared.report.Reason.TheVariants as reason
use Rattle.fabric_terms.specs.declared.report.Verb.TheVariants as verb
use Rattle.replica_core.specs.declared.entry.Entry.{Entry}
use Rattle.replica_core.specs.declared.refusal.Done.{Done}
use Rattle.replica_core.specs.declared.refusal.Done.TheVariants.{New, Held}
use Rattle.replica_core.specs.declared.refusal.ReplicaRefusal.TheVariants.{Gap, LogFull}
use Rattle.replica_core.specs.Replicas.{Replica}
use Rattle.replica_core.specs.Calls.{Outcome, append_call}
use Rattle.unit_rules.specs.declared.progress.PeerProgress.{PeerProgress}
use Rattle.unit_rules.specs.Deeds.{Deed, Keep, Send, Tell, Acted, acted, after_deeds, still, refuse}
use Rattle.unit_rules.specs.ReplicaStates.{ReplicationProgress, ReplicaState, replica_put, last_of, entry_at}
use Rattle.unit_rules.specs.Progress.{progress_of, confirmed_by, confirmed_of, most_confirmed}
use Rattle.unit_rules.specs.Promises.{say_older}

-- a new entry is recorded, and told as accepted
abbrev pub accepted : ℕ → Epoch → ℕ → List ℕ → List Deed
accepted partition epoch lsn text = Keep (kept.Wrote partition epoch lsn text) ∷ Tell (report.Accepted partition epoch lsn) ∷ []

-- Append: the entry is added where it is the next. The last entry is answered, where the log is of the epoch.

abbrev pub say_appended : Who → Epoch → Replica → Deed
say_appended asker epoch r = Send asker (body.Appended r.partition epoch (last_of r))

abbrev pub append_answered : Who → Epoch → ℕ → List ℕ → ReplicaState → Outcome Done → Acted ReplicaState
append_answered asker epoch lsn text s (Ok New, r) = acted (replica_put s r) (accepted r.partition epoch lsn text ++ say_appended asker epoch r ∷ [])
append_answered asker epoch lsn text s (Ok Held, r) = acted s (say_appended asker epoch r ∷ [])
append_answered asker epoch lsn text s (Err (Gap last), r) = if same_epoch r.at epoch then acted s (say_appended asker epoch r ∷ []) else still s
append_answered asker epoch lsn text s (Err refusal, r) = acted s (say_older asker r.partition epoch refusal)

unfoldable pub append_received : Who → Epoch → ℕ → List ℕ → ReplicaState → Acted ReplicaState
append_received asker epoch lsn text s = append_answered asker epoch lsn text s (append_call epoch lsn text s.replica)

-- What a majority has confirmed is committed, and told where it is more than before.

abbrev pub commits : ReplicationProgress → ℕ → ReplicaState → Acted ReplicaState
commits l lsn s = acted (record s { progress = Some (record l { committed = lsn }) }) (Tell (report.Committed s.replica.partition s.replica.at lsn) ∷ [])

abbrev pub committed_up_to : ReplicationProgress → ℕ → ReplicaState → Acted ReplicaState
committed_up_to l lsn s = if nat_lt l.committed lsn then commits l lsn s else still (record s { progress = Some l })

abbrev pub committed : ReplicationProgress → ReplicaState → Acted ReplicaState
committed l s = committed_up_to l (most_confirmed (confirmed_of l (last_of s.replica))) s

-- Appended: the primary of the epoch notes what the member has.

abbrev pub appended_to : ℕ → Epoch → ℕ → ReplicaState → Option ReplicationProgress → Acted ReplicaState
appended_to node epoch last s None = still s
appended_to node epoch last s (Some l) =
    if same_epoch s.replica.at epoch then committed (confirmed_by node last (last_of s.replica) l) s else still s

unfoldable pub appended_received : ℕ → Epoch → ℕ → ReplicaState → Acted ReplicaState
appended_received node epoch last s = appended_to node epoch last s (progress_of s)

-- Write: the primary adds an entry, and sends it to each other member.

abbrev pub append_to : Epoch → Replica → ℕ → List ℕ → PeerProgress → Deed
append_to epoch r lsn text p = Send (node_instance p.node 0) (body.Append r.partition epoch lsn text)

abbrev pub write_answered : List ℕ → ReplicationProgress → ReplicaState → Outcome Done → Acted ReplicaState
write_answered text l s (Err LogFull, r) = refuse verb.Write reason.Full s
write_answered text l s (Err refusal, r) = still s
write_answered text l s (Ok done, r) =
    after_deeds (accepted r.partition r.at (last_of r) text ++ map (append_to r.at r (last_of r) text) l.peers) (committed l (replica_put s r))

abbrev pub write_to : List ℕ → ReplicaState → Option ReplicationProgress → Acted ReplicaState
write_to text s None = refuse verb.Write reason.NotPrimary s
write_to text s (Some l) = write_answered text l s (append_call s.replica.at (last_of s.replica + 1) text s.replica)

unfoldable pub write_commanded : List ℕ → ReplicaState → Acted ReplicaState
write_commanded text s = write_to text s (progress_of s)

-- A firing: the primary sends each other member the entry that is next for it, where there is one.

abbrev pub entry_sent : Replica → PeerProgress → Option Entry → List Deed
entry_sent r p None = []
entry_sent r p (Some entry) = append_to r.at r p.next entry.bytes p ∷ []

abbrev pub progress_fired : Replica → Option ReplicationProgress → List Deed
progress_fired r None = []
progress_fired r (Some l) = flat_map (λ p. entry_sent r p (entry_at p.next r.log)) l.peers

unfoldable pub state_fired : ReplicaState → List Deed
state_fired s = progress_fired s.replica (progress_of s)
