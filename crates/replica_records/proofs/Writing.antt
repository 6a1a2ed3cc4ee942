-- The rows of Append, Appended and write, and a replica's firing.
use Rattle.std.proofs.Common.{◌≡◌, ℕ, ◌+◌, Bool, true, false, ◌==◌, List, [], ◌∷◌, ◌++◌, length, Option, None, Some, Ok, Err, refl, sym, ap, ◌∙◌, subst, arith, length-append}
use Rattle.std.proofs.lemmas.Bool.{ltb-true}
use Rattle.std.specs.Prelude.{map, nat_lt, if◌then◌else◌}
use Rattle.std.specs.List.{flat_map}
use Rattle.ring_points.specs.Limits.{most_log_entries}
use Rattle.ring_points.specs.declared.unit.Epoch.{Epoch}
use Rattle.ring_points.specs.declared.who.Who.{Who}
use Rattle.ring_points.specs.Epochs.{is_older, same_epoch}
use Rattle.replica_core.specs.declared.entry.Entry.{Entry}
use Rattle.replica_core.specs.declared.refusal.Done.{Done}
use Rattle.replica_core.specs.declared.refusal.Done.TheVariants.{New, Held}
use Rattle.replica_core.specs.declared.refusal.ReplicaRefusal.TheVariants.{Older, NotMember, Gap, LogFull, OutOfMemory}
use Rattle.replica_core.specs.Replicas.{Replica, written}
use Rattle.replica_core.specs.Calls.{Outcome, unless, held_if, is_ahead, append_call}
use Rattle.unit_rules.specs.declared.progress.PeerProgress.{PeerProgress}
use Rattle.unit_rules.specs.Answers.{OnlyAnswers}
use Rattle.unit_rules.specs.Deeds.{Acted, acted, still, records_of}
use Rattle.unit_rules.specs.Progress.{progress_of, confirmed_by, confirmed_of, most_confirmed}
use Rattle.unit_rules.specs.ReplicaStates.{ReplicationProgress, ReplicaState, replica_put, last_of, entry_at}
use Rattle.unit_rules.specs.Writes.{say_appended, append_answered, append_received, commits, committed, appended_to, appended_received, append_to, write_answered, write_to, write_commanded, entry_sent, progress_fired, state_fired}
use Rattle.replica_records.specs.Kept.{without_role}
use Rattle.replica_records.proofs.Blind.{append_blind}
use Rattle.replica_records.proofs.Folding.{replica_after_all, AllOf}
use Rattle.replica_records.proofs.Recorded.{Recorded, left, silent_join, refused_not}

-- what a primary notes of its members is not recorded
pub record Noted (s : ReplicaState) (a : Acted ReplicaState) : Type 0 where
  pub silent : records_of a.deeds ≡ []
  pub same : a.state.replica ≡ s.replica

pub committed_noted : (l : ReplicationProgress) (s : ReplicaState) → Noted s (committed l s)
committed_noted l s = go (nat_lt l.committed (most_confirmed (confirmed_of l (last_of s.replica))))
  where
    go : (b : Bool) → Noted s (if b then commits l (most_confirmed (confirmed_of l (last_of s.replica))) s else still (record s { progress = Some l }))
    go true = record { silent = refl; same = refl }
    go false = record { silent = refl; same = refl }

appends_silent : (e : Epoch) (r : Replica) (lsn : ℕ) (text : List ℕ) (peers : List PeerProgress) → records_of (map (append_to e r lsn text) peers) ≡ []
appends_silent e r lsn text [] = refl
appends_silent e r lsn text (q ∷ qs) = appends_silent e r lsn text qs

-- the next entry is added, where the call is taken
pub next_added : (e : Epoch) (text : List ℕ) (r : Replica) (d : Done) (t : Replica) → append_call e (length r.log + 1) text r ≡ (Ok d, t) →
    t ≡ written (record { epoch = e; lsn = length r.log + 1; bytes = text }) r
next_added e text r d t =
    go (is_older e r.promised) (is_ahead e (length r.log + 1) r) (nat_lt (length r.log + 1) (length r.log + 1)) refl (length r.log == most_log_entries)
  where
    go : (older ahead held : Bool) → nat_lt (length r.log + 1) (length r.log + 1) ≡ held → (full : Bool) →
        ◌≡◌ {A = Outcome Done}
        (unless older (Older r.promised) r
        (unless ahead (Gap (length r.log)) r
        (held_if held r
        (unless full LogFull r (Ok New, written (record { epoch = e; lsn = length r.log + 1; bytes = text }) r))))) (Ok d, t) →
        t ≡ written (record { epoch = e; lsn = length r.log + 1; bytes = text }) r
    go true ahead held h full k = absurd (refused_not (Older r.promised) r t d k)
    go false true held h full k = absurd (refused_not (Gap (length r.log)) r t d k)
    go false false true h full k = absurd (let lt = ltb-true (length r.log + 1) (length r.log + 1) h in omega arith)
    go false false false h true k = absurd (refused_not LogFull r t d k)
    go false false false h false k = sym (ap left k)

module _ (p : ℕ) (s : ReplicaState) where
  pub append_recorded : s.replica.partition ≡ p → (from : Who) (e : Epoch) (lsn : ℕ) (text : List ℕ) → Recorded p s (append_received from e lsn text s)
  unfolding append_received
  append_recorded here from e lsn text = go (append_call e lsn text s.replica) refl
    where
      gap : (b : Bool) (r : Replica) → Recorded p s (if b then acted s (say_appended from e r ∷ []) else still s)
      gap true r = record { of = tt; folds = refl }
      gap false r = record { of = tt; folds = refl }

      go : (o : Outcome Done) → append_call e lsn text s.replica ≡ o → Recorded p s (append_answered from e lsn text s o)
      go (Ok New, r) i = record {
        of = (sym (ap (λ (o : Outcome Done). o.1.partition) i) ∙ (append_blind e lsn text s.replica).partition ∙ here, tt);
        folds = (append_blind e lsn text s.replica).same ∙ ap (λ (o : Outcome Done). without_role o.1) i;
      }
      go (Ok Held, r) i = record { of = tt; folds = refl }
      go (Err (Gap last), r) i = gap (same_epoch r.at e) r
      go (Err (Older x), r) i = record { of = tt; folds = refl }
      go (Err NotMember, r) i = record { of = tt; folds = refl }
      go (Err LogFull, r) i = record { of = tt; folds = refl }
      go (Err OutOfMemory, r) i = record { of = tt; folds = refl }

  noted : (a : Acted ReplicaState) → Noted s a → Recorded p s a
  noted a n = record {
    of = subst (AllOf p) (sym n.silent) tt;
    folds = ap (replica_after_all (without_role s.replica)) n.silent ∙ ap without_role (sym n.same);
  }

  pub appended_recorded : (node : ℕ) (e : Epoch) (last : ℕ) → Recorded p s (appended_received node e last s)
  unfolding appended_received
  appended_recorded node e last = go (progress_of s)
    where
      by : (l : ReplicationProgress) (b : Bool) → Recorded p s (if b then committed l s else still s)
      by l true = noted (committed l s) (committed_noted l s)
      by l false = record { of = tt; folds = refl }

      go : (o : Option ReplicationProgress) → Recorded p s (appended_to node e last s o)
      go None = record { of = tt; folds = refl }
      go (Some l) = by (confirmed_by node last (last_of s.replica) l) (same_epoch s.replica.at e)

  pub write_recorded : s.replica.partition ≡ p → (text : List ℕ) → Recorded p s (write_commanded text s)
  unfolding write_commanded
  write_recorded here text = go (progress_of s)
    where
      by : (l : ReplicationProgress) (o : Outcome Done) → append_call s.replica.at (last_of s.replica + 1) text s.replica ≡ o → Recorded p s (write_answered text l s o)
      by l (Err (Older x), r) i = record { of = tt; folds = refl }
      by l (Err NotMember, r) i = record { of = tt; folds = refl }
      by l (Err (Gap last), r) i = record { of = tt; folds = refl }
      by l (Err LogFull, r) i = record { of = tt; folds = refl }
      by l (Err OutOfMemory, r) i = record { of = tt; folds = refl }
      by l (Ok d, r) i =
          let n = committed_noted l (replica_put s r) in
          let a : Acted ReplicaState = committed l (replica_put s r) in
          let quiet : records_of (map (append_to r.at r (last_of r) text) l.peers ++ a.deeds) ≡ []
          = silent_join (map (append_to r.at r (last_of r) text) l.peers) a.deeds (appends_silent r.at r (last_of r) text l.peers) n.silent in
          let added = next_added s.replica.at text s.replica d r i in
          let at : r.at ≡ s.replica.at = ap (λ (z : Replica). z.at) added in
          let last : last_of r ≡ last_of s.replica + 1
          = ap (λ (z : Replica). length z.log) added
          ∙ length-append s.replica.log (record { epoch = s.replica.at; lsn = length s.replica.log + 1; bytes = text } ∷ []) in
          let blind = append_blind s.replica.at (last_of s.replica + 1) text s.replica in
          let folded : left (append_call r.at (last_of r) text (without_role s.replica)) ≡ without_role r
          = ap (λ (e : Epoch). left (append_call e (last_of r) text (without_role s.replica))) at
          ∙ (ap (λ (n : ℕ). left (append_call s.replica.at n text (without_role s.replica))) last
          ∙ (blind.same ∙ ap (λ (o : Outcome Done). without_role o.1) i)) in
          record {
            of = (sym (ap (λ (o : Outcome Done). o.1.partition) i) ∙ blind.partition ∙ here, subst (AllOf p) (sym quiet) tt);
            folds =
                ap (replica_after_all (left (append_call r.at (last_of r) text (without_role s.replica)))) quiet
                ∙ (folded ∙ ap without_role (sym n.same));
          }

      go : (o : Option ReplicationProgress) → Recorded p s (write_to text s o)
      go None = record { of = tt; folds = refl }
      go (Some l) = by l (append_call s.replica.at (last_of s.replica + 1) text s.replica) refl

-- nor does an answer about names
pub answer_recorded : (p : ℕ) (s : ReplicaState) (a : Acted ReplicaState) → OnlyAnswers s a → Recorded p s a
answer_recorded p s a h = subst (Recorded p s) (sym h.is) (record { of = tt; folds = refl })

-- a replica's firing records nothing
pub fired_silent : (s : ReplicaState) → records_of (state_fired s) ≡ []
unfolding state_fired
fired_silent s = go (progress_of s)
  where
    one : (q : PeerProgress) (o : Option Entry) → records_of (entry_sent s.replica q o) ≡ []
    one q None = refl
    one q (Some x) = refl

    all : (qs : List PeerProgress) → records_of (flat_map (λ q. entry_sent s.replica q (entry_at q.next s.replica.log)) qs) ≡ []
    all [] = refl
    all (q ∷ qs) =
        silent_join (entry_sent s.replica q (entry_at q.next s.replica.log))
        (flat_map (λ q. entry_sent s.replica q (entry_at q.next s.replica.log)) qs) (one q (entry_at q.next s.replica.log)) (all qs)

    go : (o : Option ReplicationProgress) → records_of (progress_fired s.replica o) ≡ []
    go None = refl
    go (Some l) = all l.peers
