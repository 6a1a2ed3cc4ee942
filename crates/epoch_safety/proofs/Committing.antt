-- Of each row of a replica but its answers about names: it tells of no name, and who reports an entry committed is the primary
-- that holds it committed then.
use Rattle.std.proofs.Common.{◌≡◌, ℕ, ◌+◌, Bool, true, false, not, ◌&&◌, ◌||◌, ◌==◌, List, [], ◌∷◌, ◌++◌, length, Option, None, Some, Ok, Err, refl, ap, ◌∙◌}
use Rattle.std.specs.Prelude.{map, nat_lt, if◌then◌else◌}
use Rattle.std.specs.List.{flat_map}
use Rattle.fabric_terms.specs.declared.report.Report.{Report}
use Rattle.fabric_terms.specs.declared.report.Report.TheVariants as report
use Rattle.ring_points.specs.declared.unit.Config.{Config}
use Rattle.ring_points.specs.declared.unit.Epoch.{Epoch}
use Rattle.ring_points.specs.declared.who.Who.{Who}
use Rattle.ring_points.specs.Epochs.{is_older, same_epoch}
use Rattle.replica_core.specs.declared.entry.Entry.{Entry}
use Rattle.replica_core.specs.declared.refusal.Done.{Done}
use Rattle.replica_core.specs.declared.refusal.Done.TheVariants.{New, Held}
use Rattle.replica_core.specs.declared.refusal.ReplicaRefusal.{ReplicaRefusal}
use Rattle.replica_core.specs.declared.refusal.ReplicaRefusal.TheVariants.{Gap, LogFull, Older}
use Rattle.replica_core.specs.declared.role.Role.{Role}
use Rattle.replica_core.specs.declared.role.Role.TheVariants.{Primary}
use Rattle.replica_core.specs.Calls.{Outcome, activate_call, adopt_call, adopt_own_call, append_call, held_if, idle_call, is_ahead, promise_call, unless}
use Rattle.replica_core.specs.Replicas.{Replica, written}
use Rattle.unit_rules.specs.declared.progress.PeerProgress.{PeerProgress}
use Rattle.unit_rules.specs.declared.progress.CatchUp.{CatchUp}
use Rattle.unit_rules.specs.Activations.{activate_answered, activate_received, role_begun, same_role}
use Rattle.unit_rules.specs.Copies.{adoption, entry_given, fetch_received, is_wanted, log_taken, own_adopted, piece_collected, piece_for, piece_received, sync_answered, sync_received, sync_taken}
use Rattle.unit_rules.specs.Deeds.{Deed, Keep, Send, Tell, Acted, still}
use Rattle.unit_rules.specs.Progress.{confirmed_by, confirmed_of, is_primary, progress_of, most_confirmed}
use Rattle.unit_rules.specs.Promises.{promise_answered, promise_received, raise_told, say_older}
use Rattle.unit_rules.specs.ReplicaStates.{ReplicationProgress, ReplicaState, entry_at, last_of, replica_put}
use Rattle.unit_rules.specs.Writes.{accepted, append_answered, append_received, append_to, appended_received, appended_to, commits, committed, entry_sent, progress_fired, state_fired, write_answered, write_commanded, write_to}
use Rattle.epoch_refinement.proofs.Doing.{leads}

-- a primary of this epoch, which holds so many entries committed
pub record LeadsAt (s : ReplicaState) (e : Epoch) (last : ℕ) : Type 0 where
  pub progress : ReplicationProgress
  pub is : progress_of s ≡ Some progress
  pub committed_is : progress.committed ≡ last
  pub at_is : s.replica.at ≡ e

-- a commit is reported of this partition, by its primary, and no answer about names
abbrev pub IsCommitOf : ℕ → ReplicaState → Report → Type 0
IsCommitOf q s (report.Committed p e last) = (p ≡ q) × LeadsAt s e last
IsCommitOf q s (report.Resolved p name value) = ⊥
IsCommitOf q s (report.Unresolved p name) = ⊥
IsCommitOf q s (report.NameList p names) = ⊥
IsCommitOf q s _ = Unit {0}

abbrev pub CommitsOf : ℕ → ReplicaState → List Deed → Type 0
CommitsOf q s [] = Unit {0}
CommitsOf q s (Keep r ∷ ds) = CommitsOf q s ds
CommitsOf q s (Send to b ∷ ds) = CommitsOf q s ds
CommitsOf q s (Tell r ∷ ds) = IsCommitOf q s r × CommitsOf q s ds

-- neither a commit nor an answer about names
abbrev pub IsPlain : Report → Type 0
IsPlain (report.Committed p e last) = ⊥
IsPlain (report.Resolved p name value) = ⊥
IsPlain (report.Unresolved p name) = ⊥
IsPlain (report.NameList p names) = ⊥
IsPlain _ = Unit {0}

abbrev pub ArePlain : List Deed → Type 0
ArePlain [] = Unit {0}
ArePlain (Keep r ∷ ds) = ArePlain ds
ArePlain (Send to b ∷ ds) = ArePlain ds
ArePlain (Tell r ∷ ds) = IsPlain r × ArePlain ds

pub plain_join : (ds es : List Deed) → ArePlain ds → ArePlain es → ArePlain (ds ++ es)
plain_join [] es h k = k
plain_join (Keep r ∷ ds) es h k = plain_join ds es h k
plain_join (Send to b ∷ ds) es h k = plain_join ds es h k
plain_join (Tell r ∷ ds) es h k = (h.0, plain_join ds es h.1 k)

plain_of : (q : ℕ) (s : ReplicaState) (ds : List Deed) → ArePlain ds → CommitsOf q s ds
plain_of q s [] h = tt
plain_of q s (Keep r ∷ ds) h = plain_of q s ds h
plain_of q s (Send to b ∷ ds) h = plain_of q s ds h
plain_of q s (Tell r ∷ ds) h = (one r h.0, plain_of q s ds h.1)
  where
    one : (r : Report) → IsPlain r → IsCommitOf q s r
    one (report.Committed p e last) n = absurd n
    one (report.Resolved p name value) n = absurd n
    one (report.Unresolved p name) n = absurd n
    one (report.NameList p names) n = absurd n
    one r n = tt

commits_join : (q : ℕ) (s : ReplicaState) (ds es : List Deed) → CommitsOf q s ds → CommitsOf q s es → CommitsOf q s (ds ++ es)
commits_join q s [] es h k = k
commits_join q s (Keep r ∷ ds) es h k = commits_join q s ds es h k
commits_join q s (Send to b ∷ ds) es h k = commits_join q s ds es h k
commits_join q s (Tell r ∷ ds) es h k = (h.0, commits_join q s ds es h.1 k)

-- Rows that report neither.

older_plain : (asker : Who) (p : ℕ) (e : Epoch) (why : ReplicaRefusal) → ArePlain (say_older asker p e why)
older_plain asker p e (Older promised) = tt
older_plain asker p e why = tt

raise_plain : (p : ℕ) (e : Epoch) (d : Done) → ArePlain (raise_told p e d)
raise_plain p e New = (tt, tt)
raise_plain p e Held = tt

pub promise_plain : (asker : Who) (e : Epoch) (s : ReplicaState) → ArePlain (promise_received asker e s).deeds
unfolding promise_received
promise_plain asker e s = go (promise_call e s.replica)
  where
    go : (o : Outcome Done) → ArePlain (promise_answered asker e s o).deeds
    go (Err why, r) = older_plain asker r.partition e why
    go (Ok d, r) = plain_join (raise_told r.partition e d) _ (raise_plain r.partition e d) tt

either : (b : Bool) (x y : Acted ReplicaState) → ArePlain x.deeds → ArePlain y.deeds → ArePlain (let a : Acted ReplicaState = if b then x else y in a).deeds
either true x y h k = h
either false x y h k = k

either_list : (b : Bool) (ds es : List Deed) → ArePlain ds → ArePlain es → ArePlain (if b then ds else es)
either_list true ds es h k = h
either_list false ds es h k = k

adoption_plain : (p : ℕ) (t : CatchUp) (is_own : Bool) → ArePlain (adoption p t is_own)
adoption_plain p t is_own = either_list (t.last == 0) _ _ tt (tt, tt)

own_plain : (t : CatchUp) (s : ReplicaState) (o : Outcome Done) → ArePlain (own_adopted t s o).deeds
own_plain t s (Err why, r) = tt
own_plain t s (Ok d, r) = adoption_plain r.partition t true

log_plain : (me : ℕ) (t : CatchUp) (s : ReplicaState) → ArePlain (log_taken me t s).deeds
log_plain me t s = either (t.last == 0 || t.origin == me) _ _ (own_plain t s (adopt_own_call t.epoch t.last s.replica)) tt

taken_plain : (me : ℕ) (t : CatchUp) (s : ReplicaState) → ArePlain (sync_taken me t s).deeds
taken_plain me t s = either (same_epoch s.replica.at t.epoch) _ _ tt (log_plain me t (record s { replica = (idle_call t.epoch s.replica).1; catch_up = Some t }))

pub sync_plain : (me : ℕ) (t : CatchUp) (s : ReplicaState) → ArePlain (sync_received me t s).deeds
unfolding sync_received
sync_plain me t s = go (promise_call t.epoch s.replica)
  where
    go : (o : Outcome Done) → ArePlain (sync_answered me t s o).deeds
    go (Err why, r) = older_plain t.asker r.partition t.epoch why
    go (Ok d, r) = plain_join (raise_told r.partition t.epoch d) _ (raise_plain r.partition t.epoch d) (taken_plain me t (replica_put s r))

given_plain : (asker : Who) (e : Epoch) (s : ReplicaState) (o : Option Entry) → ArePlain (entry_given asker e s o).deeds
given_plain asker e s None = tt
given_plain asker e s (Some x) = tt

pub fetch_plain : (asker : Who) (e : Epoch) (lsn : ℕ) (s : ReplicaState) → ArePlain (fetch_received asker e lsn s).deeds
unfolding fetch_received
fetch_plain asker e lsn s = either (same_epoch s.replica.promised e) _ _ (given_plain asker e s (entry_at lsn s.replica.log)) tt

collected_plain : (t : CatchUp) (x : Entry) (s : ReplicaState) (o : Outcome Done) → ArePlain (piece_collected t x s o).deeds
collected_plain t x s (Err why, r) = tt
collected_plain t x s (Ok d, r) = either_list (x.lsn == t.last) _ _ (adoption_plain r.partition t false) tt

pub piece_plain : (e : Epoch) (x : Entry) (s : ReplicaState) → ArePlain (piece_received e x s).deeds
unfolding piece_received
piece_plain e x s = go s.catch_up
  where
    go : (o : Option CatchUp) → ArePlain (piece_for e x s o).deeds
    go None = tt
    go (Some t) = either (is_wanted t e x.lsn s.replica) _ _ (collected_plain t x s (adopt_call t.epoch x t.last s.replica)) tt

begun_plain : (me : ℕ) (asker : Who) (config : Config) (s : ReplicaState) (r : Replica) (role : Role) → ArePlain (role_begun me asker config s r role).deeds
begun_plain me asker config s r Primary = (tt, tt)
begun_plain me asker config s r role = tt

pub activate_plain : (me : ℕ) (asker : Who) (config : Config) (s : ReplicaState) → ArePlain (activate_received me asker config s).deeds
unfolding activate_received
activate_plain me asker config s = go (activate_call me config s.replica)
  where
    go : (o : Outcome Role) → ArePlain (activate_answered me asker config s o).deeds
    go (Err why, r) = older_plain asker config.partition config.epoch why
    go (Ok role, r) = either (same_role s.replica.role role) _ _ tt (begun_plain me asker config s r role)

pub append_plain : (asker : Who) (e : Epoch) (lsn : ℕ) (text : List ℕ) (s : ReplicaState) → ArePlain (append_received asker e lsn text s).deeds
unfolding append_received
append_plain asker e lsn text s = go (append_call e lsn text s.replica)
  where
    go : (o : Outcome Done) → ArePlain (append_answered asker e lsn text s o).deeds
    go (Ok New, r) = (tt, tt)
    go (Ok Held, r) = tt
    go (Err (Gap last), r) = either (same_epoch r.at e) _ _ tt tt
    go (Err why, r) = older_plain asker r.partition e why

sent_plain : (r : Replica) (q : PeerProgress) (o : Option Entry) → ArePlain (entry_sent r q o)
sent_plain r q None = tt
sent_plain r q (Some x) = tt

pub fired_plain : (s : ReplicaState) → ArePlain (state_fired s)
unfolding state_fired
fired_plain s = go (progress_of s)
  where
    all : (qs : List PeerProgress) → ArePlain (flat_map (λ q. entry_sent s.replica q (entry_at q.next s.replica.log)) qs)
    all [] = tt
    all (q ∷ qs) = plain_join (entry_sent s.replica q (entry_at q.next s.replica.log)) _ (sent_plain s.replica q (entry_at q.next s.replica.log)) (all qs)

    go : (o : Option ReplicationProgress) → ArePlain (progress_fired s.replica o)
    go None = tt
    go (Some l) = all l.peers

-- What is committed is what the primary holds committed.

committed_commits : (q : ℕ) (l : ReplicationProgress) (s : ReplicaState) → s.replica.partition ≡ q → is_primary s.replica.role ≡ true → is_older s.replica.at s.replica.promised ≡ false →
    CommitsOf q (committed l s).state (committed l s).deeds
committed_commits q l s of leads older = go (most_confirmed (confirmed_of l (last_of s.replica))) (nat_lt l.committed (most_confirmed (confirmed_of l (last_of s.replica))))
  where
    go : (last : ℕ) (b : Bool) → let a : Acted ReplicaState = if b then commits l last s else still (record s { progress = Some l }) in CommitsOf q a.state a.deeds
    go last true = (
      (
        of,
        record {
          progress = record l { committed = last };
          is = λ i. if leads i && not (older i) then Some (record l { committed = last }) else None;
          committed_is = refl;
          at_is = refl;
        },
      ),
      tt,
    )
    go last false = tt

pub appended_commits : (q node : ℕ) (e : Epoch) (last : ℕ) (s : ReplicaState) → s.replica.partition ≡ q →
    CommitsOf q (appended_received node e last s).state (appended_received node e last s).deeds
unfolding appended_received
appended_commits q node e last s of = go (progress_of s) refl
  where
    by_epoch : (l : ReplicationProgress) → progress_of s ≡ Some l → (b : Bool) →
        let a : Acted ReplicaState = if b then committed (confirmed_by node last (last_of s.replica) l) s else still s in CommitsOf q a.state a.deeds
    by_epoch l h true = let both = leads s l h in committed_commits q (confirmed_by node last (last_of s.replica) l) s of both.0 both.1
    by_epoch l h false = tt

    go : (o : Option ReplicationProgress) → progress_of s ≡ o → let a : Acted ReplicaState = appended_to node e last s o in CommitsOf q a.state a.deeds
    go None h = tt
    go (Some l) h = by_epoch l h (same_epoch s.replica.at e)

-- an entry that is added leaves all but the log

record Longer (r s : Replica) : Type 0 where
  pub partition : s.partition ≡ r.partition
  pub role : s.role ≡ r.role
  pub at : s.at ≡ r.at
  pub promised : s.promised ≡ r.promised

abbrev Adds : Replica → Outcome Done → Type 0
Adds r (Ok d, s) = Longer r s
Adds r (Err why, s) = Unit {0}

append_adds : (e : Epoch) (lsn : ℕ) (text : List ℕ) (r : Replica) → Adds r (append_call e lsn text r)
append_adds e lsn text r =
    refuses (is_older e r.promised) _ _
    (refuses (is_ahead e lsn r) _ _ (holds (nat_lt lsn (length r.log + 1)) _ (refuses (length r.log == 100000) _ _ same)))
  where
    same : Adds r (Ok New, written (record { epoch = e; lsn = lsn; bytes = text }) r)
    same = record { partition = refl; role = refl; at = refl; promised = refl }

    refuses : (b : Bool) (why : ReplicaRefusal) (o : Outcome Done) → Adds r o → Adds r (unless b why r o)
    refuses true why o h = tt
    refuses false why o h = h

    holds : (b : Bool) (o : Outcome Done) → Adds r o → Adds r (held_if b r o)
    holds true o h = record { partition = refl; role = refl; at = refl; promised = refl }
    holds false o h = h

pub write_commits : (q : ℕ) (text : List ℕ) (s : ReplicaState) → s.replica.partition ≡ q → CommitsOf q (write_commanded text s).state (write_commanded text s).deeds
unfolding write_commanded
write_commits q text s of = go (progress_of s) refl
  where
    sends : (r : Replica) (ps : List PeerProgress) → ArePlain (map (append_to r.at r (last_of r) text) ps)
    sends r [] = tt
    sends r (p ∷ ps) = sends r ps

    by : (l : ReplicationProgress) → progress_of s ≡ Some l → (o : Outcome Done) → Adds s.replica o → let a : Acted ReplicaState = write_answered text l s o in CommitsOf q a.state a.deeds
    by l h (Err LogFull, r) add = (tt, tt)
    by l h (Err why, r) add = tt
    by l h (Ok d, r) add =
        let both = leads s l h in
        commits_join q _ (accepted r.partition r.at (last_of r) text ++ map (append_to r.at r (last_of r) text) l.peers) _
        (plain_of q _ (accepted r.partition r.at (last_of r) text ++ map (append_to r.at r (last_of r) text) l.peers) (tt, sends r l.peers))
        (committed_commits q l (replica_put s r) (add.partition ∙ of) (ap is_primary add.role ∙ both.0)
        ((λ i. is_older (add.at i) (add.promised i)) ∙ both.1))

    go : (o : Option ReplicationProgress) → progress_of s ≡ o → let a : Acted ReplicaState = write_to text s o in CommitsOf q a.state a.deeds
    go None h = (tt, tt)
    go (Some l) h = by l h (append_call s.replica.at (last_of s.replica + 1) text s.replica) (append_adds s.replica.at (last_of s.replica + 1) text s.replica)
