-- What a primary does with writes and with what members confirm: its parts come to the row.
use Rattle.std.proofs.Common.{◌≡◌, ℕ, suc, ◌+◌, ◌≤◌, Bool, true, cond, List, [], ◌∷◌, ◌++◌, length, map, Option, Some, None, Ok, refl, sym, subst, ap, ◌∙◌, arith, length-append}
use Rattle.std.proofs.lemmas.List.{append-nil, append_assoc}
use Rattle.std.specs.Prelude.{◌&&◌, not, is_some}
use Rattle.fabric_terms.specs.declared.message.Body.{Body}
use Rattle.fabric_terms.specs.declared.record.Record.{Record}
use Rattle.fabric_terms.specs.declared.record.Record.TheVariants as kept
use Rattle.fabric_terms.specs.declared.report.Report.{Report}
use Rattle.fabric_terms.specs.declared.report.Report.TheVariants as report
use Rattle.ring_points.specs.Limits.{most_arbiters, most_messages}
use Rattle.ring_points.specs.declared.unit.Epoch.{Epoch}
use Rattle.ring_points.specs.declared.who.Who.{Who}
use Rattle.ring_points.specs.Epochs.{is_older, same_epoch}
use Rattle.replica_core.specs.declared.refusal.Done.{Done}
use Rattle.replica_core.specs.Replicas.{Replica}
use Rattle.replica_core.specs.Calls.{Outcome, append_call}
use Rattle.unit_rules.specs.declared.progress.PeerProgress.{PeerProgress}
use Rattle.unit_rules.specs.Deeds.{Deed, Acted, after_deeds, still, records_of, frames_of, reports_of}
use Rattle.unit_rules.specs.Progress.{confirmed_by, is_primary, progress_of}
use Rattle.unit_rules.specs.ReplicaStates.{ReplicationProgress, ReplicaState, last_of, replica_put}
use Rattle.unit_rules.specs.Writes.{accepted, append_to, appended_received, appended_to, committed, write_answered, write_commanded, write_to}
use Rattle.unit_desk.specs.declared.unit_effects.UnitEffects.{UnitEffects}
use Rattle.unit_desk.specs.Limits.{most_row_records, most_row_reports}
use Rattle.unit_desk.specs.UnitEffects.{Does, HasRoom, HasRoomFor, Left}
use Rattle.unit_desk.proofs.Deeds.{records_of-append, frames_of-append, reports_of-append}
use Rattle.unit_replica.specs.Limits.{most_peers}
use Rattle.unit_replica.specs.Rows.{spread}

-- what is sent to each member is neither recorded nor told

records_of-appends : (epoch : Epoch) (r : Replica) (lsn : ℕ) (text : List ℕ) (peers : List PeerProgress) → records_of (map (append_to epoch r lsn text) peers) ≡ []
records_of-appends epoch r lsn text [] = refl
records_of-appends epoch r lsn text (p ∷ peers) = records_of-appends epoch r lsn text peers

reports_of-appends : (epoch : Epoch) (r : Replica) (lsn : ℕ) (text : List ℕ) (peers : List PeerProgress) → reports_of (map (append_to epoch r lsn text) peers) ≡ []
reports_of-appends epoch r lsn text [] = refl
reports_of-appends epoch r lsn text (p ∷ peers) = reports_of-appends epoch r lsn text peers

sent_length : (epoch : Epoch) (r : Replica) (lsn : ℕ) (text : List ℕ) (peers : List PeerProgress) → length (frames_of (map (append_to epoch r lsn text) peers)) ≡ length peers
sent_length epoch r lsn text [] = refl
sent_length epoch r lsn text (p ∷ peers) = ap (λ (n : ℕ). suc n) (sent_length epoch r lsn text peers)

-- an entry that is accepted and then sent to each member
left_written : (epoch : Epoch) (r : Replica) (lsn : ℕ) (text : List ℕ) (peers : List PeerProgress) (before mid after : UnitEffects)
    → Left (accepted r.partition epoch lsn text) before mid → after.records ≡ mid.records → after.told ≡ mid.told
    → after.out ≡ mid.out ++ frames_of (map (append_to epoch r lsn text) peers)
    → Left (accepted r.partition epoch lsn text ++ map (append_to epoch r lsn text) peers) before after
left_written epoch r lsn text peers before mid after l records told out = record {
  records = records ∙ (l.records ∙ ap (λ (rs : List Record). before.records ++ kept.Wrote r.partition epoch lsn text ∷ rs) (sym (records_of-appends epoch r lsn text peers)));
  sent = out ∙ ap (λ (ms : List (Who × Body)). ms ++ frames_of (map (append_to epoch r lsn text) peers)) (l.sent ∙ append-nil before.out);
  told = told ∙ (l.told ∙ ap (λ (rs : List Report). before.told ++ report.Accepted r.partition epoch lsn ∷ rs) (sym (reports_of-appends epoch r lsn text peers)));
}

-- the same, as the calls say it
pub left_told : (p : ℕ) (e : Epoch) (n : ℕ) (bytes : List ℕ) (peers : List PeerProgress) (r : Replica) (text : List ℕ) (l : ReplicationProgress) (before mid after : UnitEffects)
    → p ≡ r.partition → e ≡ r.at → n ≡ last_of r → bytes ≡ text → peers ≡ l.peers
    → Left (accepted p e n text) before mid → after.records ≡ mid.records → after.told ≡ mid.told
    → after.out ≡ mid.out ++ frames_of (map (append_to e r n bytes) peers)
    → Left (accepted r.partition r.at (last_of r) text ++ map (append_to r.at r (last_of r) text) l.peers) before after
left_told p e n bytes peers r text l before mid after hp he hn hb hq told_first records told out =
    let here : Left (accepted r.partition e n text) before mid = subst (λ (q : ℕ). Left (accepted q e n text) before mid) hp told_first in
    let next : Left (accepted r.partition r.at n text) before mid = subst (λ (f : Epoch). Left (accepted r.partition f n text) before mid) he here in
    let first : Left (accepted r.partition r.at (last_of r) text) before mid = subst (λ (m : ℕ). Left (accepted r.partition r.at m text) before mid) hn next in
    let sent : after.out ≡ mid.out ++ frames_of (map (append_to r.at r (last_of r) text) l.peers) =
    out ∙ (λ i. mid.out ++ frames_of (map (append_to (he i) r (hn i) (hb i)) (hq i))) in
    left_written r.at r (last_of r) text l.peers before mid after first records told sent

-- there is room for one more report
pub room_left : (p : ℕ) (e : Epoch) (n : ℕ) (text bytes : List ℕ) (r : Replica) (peers : List PeerProgress) (before mid after : UnitEffects)
    → HasRoom before → length peers ≤ most_peers → Left (accepted p e n text) before mid → after.records ≡ mid.records → after.told ≡ mid.told
    → after.out ≡ mid.out ++ frames_of (map (append_to e r n bytes) peers) → HasRoomFor 0 0 1 after
room_left p e n text bytes r peers before mid after room few l records told out = record {
  records =
      let is : length after.records ≡ length before.records + 1 =
      ap (λ (rs : List Record). length rs) (records ∙ l.records) ∙ length-append before.records (kept.Wrote p e n text ∷ []) in
      let had : length before.records + 2 ≤ most_row_records = room.records in
      omega (arith, is, had);
  sent =
      let first : length mid.out ≡ length before.out = ap (λ (ms : List (Who × Body)). length ms) (l.sent ∙ append-nil before.out) in
      let is : length after.out ≡ length mid.out + length peers =
      ap (λ (ms : List (Who × Body)). length ms) out
      ∙ (length-append mid.out (frames_of (map (append_to e r n bytes) peers)) ∙ ap (λ (k : ℕ). length mid.out + k) (sent_length e r n bytes peers)) in
      let had : length before.out + most_arbiters ≤ most_messages = room.sent in
      omega (arith, first, is, had, few);
  told =
      let is : length after.told ≡ length before.told + 1 =
      ap (λ (rs : List Report). length rs) (told ∙ l.told) ∙ length-append before.told (report.Accepted p e n ∷ []) in
      let had : length before.told + 2 ≤ most_row_reports = room.told in
      omega (arith, is, had);
}

-- these deeds, and then the row
does_after : {S : Type 0} (ds : List Deed) (a : Acted S) (new : S) (before mid after : UnitEffects) → Left ds before mid → Does a new mid after → Does (after_deeds ds a) new before after
does_after ds a new before mid after l d = record {
  state = d.state;
  left = record {
    records = d.left.records ∙ (ap (λ (rs : List Record). rs ++ records_of a.deeds) l.records
        ∙ (append_assoc before.records (records_of ds) (records_of a.deeds) ∙ ap (λ (rs : List Record). before.records ++ rs) (sym (records_of-append ds a.deeds))));
    sent = d.left.sent ∙ (ap (λ (ms : List (Who × Body)). ms ++ frames_of a.deeds) l.sent
        ∙ (append_assoc before.out (frames_of ds) (frames_of a.deeds) ∙ ap (λ (ms : List (Who × Body)). before.out ++ ms) (sym (frames_of-append ds a.deeds))));
    told = d.left.told ∙ (ap (λ (rs : List Report). rs ++ reports_of a.deeds) l.told
        ∙ (append_assoc before.told (reports_of ds) (reports_of a.deeds) ∙ ap (λ (rs : List Report). before.told ++ rs) (sym (reports_of-append ds a.deeds))));
  };
}

-- what a replica knows as a primary, where it takes writes
pub leads : (s : ReplicaState) (o : Option ReplicationProgress) → (is_primary s.replica.role && not (is_older s.replica.at s.replica.promised)) ≡ true → s.progress ≡ o → progress_of s ≡ o
leads s o takes there = ap (λ (b : Bool). cond b s.progress None) takes ∙ there

does_confirmed : (node : ℕ) (epoch : Epoch) (last : ℕ) (s : ReplicaState) (l : ReplicationProgress) (new : ReplicaState) (before after : UnitEffects)
    → (is_primary s.replica.role && not (is_older s.replica.at s.replica.promised)) ≡ true → s.progress ≡ Some l → same_epoch s.replica.at epoch ≡ true
    → Does (committed (confirmed_by node last (last_of s.replica) l) s) new before after → Does (appended_received node epoch last s) new before after
unfolding appended_received
does_confirmed node epoch last s l new before after takes there same d =
    subst (λ (o : Option ReplicationProgress). Does (appended_to node epoch last s o) new before after) (sym (leads s (Some l) takes there))
    (subst (λ (b : Bool). Does {S = ReplicaState} (cond b (committed (confirmed_by node last (last_of s.replica) l) s) (still s)) new before after) (sym same) d)

does_written : (text : List ℕ) (s : ReplicaState) (r : Replica) (done : Done) (new : ReplicaState) (before after : UnitEffects)
    → (is_primary s.replica.role && not (is_older s.replica.at s.replica.promised)) ≡ true → is_some s.progress ≡ true
    → ◌≡◌ {A = Outcome Done} (Ok done, r) (append_call s.replica.at (last_of s.replica + 1) text s.replica)
    → Does (spread text s.progress (replica_put s r)) new before after → Does (write_commanded text s) new before after
unfolding write_commanded
does_written text s r done new before after takes some e d =
    subst (λ (o : Option ReplicationProgress). Does (write_to text s o) new before after) (sym (leads s s.progress takes refl)) (by s.progress some d)
  where
    by : (o : Option ReplicationProgress) → is_some o ≡ true → Does (spread text o (replica_put s r)) new before after → Does (write_to text s o) new before after
    by None none d = absurd (cc)
    by (Some l) some d = subst (λ (o : Outcome Done). Does (write_answered text l s o) new before after) e d

-- the parts of each row, as the calls say them

pub does_spread : (text : List ℕ) (s : ReplicaState) (l : ReplicationProgress) (new : ReplicaState) (before mid after : UnitEffects) → s.progress ≡ Some l
    → Left (accepted s.replica.partition s.replica.at (last_of s.replica) text ++ map (append_to s.replica.at s.replica (last_of s.replica) text) l.peers) before mid
    → ((m : ReplicationProgress) → s.progress ≡ Some m → Does (committed m s) new mid after) → Does (spread text s.progress s) new before after
does_spread text s l new before mid after there left more =
    subst (λ (o : Option ReplicationProgress). Does (spread text o s) new before after) (sym there)
    (does_after (accepted s.replica.partition s.replica.at (last_of s.replica) text ++ map (append_to s.replica.at s.replica (last_of s.replica) text) l.peers)
    (committed l s) new before mid after left (more l there))

pub does_appended : (node : ℕ) (epoch : Epoch) (last own : ℕ) (s : ReplicaState) (l m : ReplicationProgress) (new : ReplicaState) (before after : UnitEffects)
    → (is_primary s.replica.role && not (is_older s.replica.at s.replica.promised)) ≡ true → s.progress ≡ Some l → same_epoch s.replica.at epoch ≡ true
    → own ≡ last_of s.replica → m ≡ confirmed_by node last own l
    → ((n : ReplicationProgress) → ◌≡◌ {A = Option ReplicationProgress} (Some m) (Some n) → Does (committed n (record s { progress = Some m })) new before after)
    → Does (appended_received node epoch last s) new before after
does_appended node epoch last own s l m new before after takes there same own_is m_is more =
    let is : m ≡ confirmed_by node last (last_of s.replica) l = m_is ∙ ap (λ (n : ℕ). confirmed_by node last n l) own_is in
    let d : Does (committed m s) new before after = more m refl in
    does_confirmed node epoch last s l new before after takes there same (subst (λ (n : ReplicationProgress). Does (committed n s) new before after) is d)

pub does_commanded : (text bytes : List ℕ) (e : Epoch) (n : ℕ) (s : ReplicaState) (r : Replica) (done : Done) (new : ReplicaState) (before after : UnitEffects)
    → (is_primary s.replica.role && not (is_older s.replica.at s.replica.promised)) ≡ true → is_some s.progress ≡ true
    → e ≡ s.replica.at → n ≡ last_of s.replica → bytes ≡ text → ◌≡◌ {A = Outcome Done} (append_call e (n + 1) bytes s.replica) (Ok done, r)
    → Does (spread text s.progress (replica_put s r)) new before after → Does (write_commanded text s) new before after
does_commanded text bytes e n s r done new before after takes some he hn hb called d =
    does_written text s r done new before after takes some (sym called ∙ (λ i. append_call (he i) (hn i + 1) (hb i) s.replica)) d
