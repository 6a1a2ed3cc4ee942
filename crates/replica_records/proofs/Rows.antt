-- Where a row of a replica records anything, records name the replica; and it takes no log that has no room.
use Rattle.std.proofs.Common.{◌≡◌, ◌⊎◌, inl, inr, ℕ, ◌+◌, ◌≤◌, Bool, true, false, ◌&&◌, nat_le, List, [], ◌∷◌, length, Option, None, Some, Ok, Err, refl, sym, ap, ◌∙◌, subst}
use Rattle.std.proofs.lemmas.Bool.{and_parts}
use Rattle.std.specs.Prelude.{not, nat_lt, if◌then◌else◌}
use Rattle.ring_points.specs.Limits.{most_log_entries}
use Rattle.ring_points.specs.declared.unit.Config.{Config}
use Rattle.ring_points.specs.declared.unit.Epoch.{Epoch}
use Rattle.ring_points.specs.declared.who.Who.{Who}
use Rattle.ring_points.specs.Epochs.{is_older, same_epoch}
use Rattle.replica_core.specs.declared.entry.Entry.{Entry}
use Rattle.replica_core.specs.declared.refusal.Done.{Done}
use Rattle.replica_core.specs.declared.refusal.Done.TheVariants.{New, Held}
use Rattle.replica_core.specs.declared.refusal.ReplicaRefusal.{ReplicaRefusal}
use Rattle.replica_core.specs.declared.refusal.ReplicaRefusal.TheVariants.{Older, NotMember, Gap, LogFull, OutOfMemory}
use Rattle.replica_core.specs.declared.role.Role.{Role}
use Rattle.replica_core.specs.declared.role.Role.TheVariants.{None as NoRole, IdleSecondary, ActiveSecondary, Primary}
use Rattle.replica_core.specs.Calls.{Outcome, unless, held_if, adopt_call, append_call, activate_call}
use Rattle.replica_core.specs.Histories.{Adopt, taken_epoch}
use Rattle.replica_core.specs.Laws.{IsNotAhead}
use Rattle.replica_core.specs.Replicas.{Replica, raised}
use Rattle.replica_core.proofs.Orders.{same_is}
use Rattle.unit_rules.specs.declared.progress.CatchUp.{CatchUp}
use Rattle.unit_rules.specs.Answers.{OnlyAnswers}
use Rattle.unit_rules.specs.Activations.{same_role, say_activated, role_begun, activate_answered, activate_received}
use Rattle.unit_rules.specs.Copies.{entry_given, fetch_received, is_wanted, piece_collected, piece_for, piece_received}
use Rattle.unit_rules.specs.Deeds.{Acted, acted, still, records_of}
use Rattle.unit_rules.specs.Progress.{progress_of, confirmed_by, confirmed_of, most_confirmed}
use Rattle.unit_rules.specs.Promises.{say_older, promise_answered, promise_received}
use Rattle.unit_rules.specs.ReplicaStates.{ReplicationProgress, ReplicaState, replica_put, last_of, entry_at}
use Rattle.unit_rules.specs.Writes.{say_appended, append_answered, append_received, commits, committed, appended_to, appended_received, write_answered, write_to, write_commanded}
use Rattle.replica_records.specs.Named.{is_named}
use Rattle.replica_records.proofs.Naming.{not_first, promised_named, written_named, append_named, taken_named}
use Rattle.replica_records.proofs.Recorded.{left}
use Rattle.replica_records.proofs.Writing.{committed_noted, next_added}

abbrev pub HasRoom : ReplicaState → Type 0
HasRoom s = (t : CatchUp) → s.catch_up ≡ Some t → t.last ≤ most_log_entries

pub record Stood (a : Acted ReplicaState) : Type 0 where
  pub room : HasRoom a.state
  pub named : (records_of a.deeds ≡ []) ⊎ (is_named a.state.replica ≡ true)

older_quiet : (asker : Who) (q : ℕ) (e : Epoch) (why : ReplicaRefusal) → records_of (say_older asker q e why) ≡ []
older_quiet asker q e (Older promised) = refl
older_quiet asker q e NotMember = refl
older_quiet asker q e (Gap last) = refl
older_quiet asker q e LogFull = refl
older_quiet asker q e OutOfMemory = refl

module _ (s : ReplicaState) (room : HasRoom s) where
  quiet : (a : Acted ReplicaState) → a.state.catch_up ≡ s.catch_up → records_of a.deeds ≡ [] → Stood a
  quiet a same none = record { room = λ t h. room t (sym same ∙ h); named = inl none }

  names : (a : Acted ReplicaState) → a.state.catch_up ≡ s.catch_up → is_named a.state.replica ≡ true → Stood a
  names a same some = record { room = λ t h. room t (sym same ∙ h); named = inr some }

  pub promise_stood : (from : Who) (e : Epoch) → Stood (promise_received from e s)
  unfolding promise_received
  promise_stood from e = go (is_older e s.replica.promised) refl (same_epoch s.replica.promised e) refl
    where
      go : (older : Bool) → is_older e s.replica.promised ≡ older → (same : Bool) → same_epoch s.replica.promised e ≡ same →
          Stood (promise_answered from e s (unless older (Older s.replica.promised) s.replica (held_if same s.replica (Ok New, raised e s.replica))))
      go true h same i = quiet _ refl refl
      go false h true i = quiet _ refl refl
      go false h false i = names _ refl (promised_named e (raised e s.replica) refl (not_first s.replica.promised e h i))

  pub fetch_stood : (from : Who) (e : Epoch) (lsn : ℕ) → Stood (fetch_received from e lsn s)
  unfolding fetch_received
  fetch_stood from e lsn = go (same_epoch s.replica.promised e)
    where
      given : (o : Option Entry) → Stood (entry_given from e s o)
      given None = quiet _ refl refl
      given (Some entry) = quiet _ refl refl

      go : (b : Bool) → Stood (if b then entry_given from e s (entry_at lsn s.replica.log) else still s)
      go true = given (entry_at lsn s.replica.log)
      go false = quiet _ refl refl

  pub piece_stood : IsNotAhead s.replica → (e : Epoch) (x : Entry) → Stood (piece_received e x s)
  unfolding piece_received
  piece_stood behind e x = go s.catch_up
    where
      collected : (t : CatchUp) → same_epoch s.replica.at t.epoch ≡ false → (o : Outcome Done) → adopt_call t.epoch x t.last s.replica ≡ o →
          Stood (piece_collected t x s o)
      collected t other (Err why, r) i = quiet _ refl refl
      collected t other (Ok d, r) i =
          names _ refl
          (subst (λ (z : Replica). is_named z ≡ true) (ap left i)
          (taken_named (Adopt t.epoch x t.last) s.replica t.epoch behind (ap (λ (o : Outcome Done). taken_epoch t.epoch o.0) i) other))

      by : (t : CatchUp) → (b : Bool) → is_wanted t e x.lsn s.replica ≡ b →
          Stood (if b then piece_collected t x s (adopt_call t.epoch x t.last s.replica) else still s)
      by t false i = quiet _ refl refl
      by t true i =
          let a = and_parts ((same_epoch t.epoch e && not (same_epoch s.replica.at e)) && nat_le 1 x.lsn) (nat_le x.lsn t.last) i in
          let b = and_parts (same_epoch t.epoch e && not (same_epoch s.replica.at e)) (nat_le 1 x.lsn) a.0 in
          let c = and_parts (same_epoch t.epoch e) (not (same_epoch s.replica.at e)) b.0 in
          collected t (subst (λ (d : Epoch). same_epoch s.replica.at d ≡ false) (sym (same_is t.epoch e c.0)) (off (same_epoch s.replica.at e) c.1))
          (adopt_call t.epoch x t.last s.replica) refl
        where
          off : (b : Bool) → not b ≡ true → b ≡ false
          off true h = absurd (cc (h))
          off false h = refl

      go : (o : Option CatchUp) → Stood (piece_for e x s o)
      go None = quiet _ refl refl
      go (Some t) = by t (is_wanted t e x.lsn s.replica) refl

  pub activate_stood : (me : ℕ) (from : Who) (config : Config) → Stood (activate_received me from config s)
  unfolding activate_received
  activate_stood me from config = go (activate_call me config s.replica)
    where
      takes : (b : Bool) (role : Role) (r : Replica) → Stood (if b then acted s (say_activated from config ∷ []) else role_begun me from config s r role)
      takes true role r = quiet _ refl refl
      takes false NoRole r = quiet _ refl refl
      takes false IdleSecondary r = quiet _ refl refl
      takes false ActiveSecondary r = quiet _ refl refl
      takes false Primary r = quiet _ refl refl

      go : (o : Outcome Role) → Stood (activate_answered me from config s o)
      go (Err why, r) = quiet _ refl (older_quiet from config.partition config.epoch why)
      go (Ok role, r) = takes (same_role s.replica.role role) role r

  pub append_stood : (from : Who) (e : Epoch) (lsn : ℕ) (text : List ℕ) → Stood (append_received from e lsn text s)
  unfolding append_received
  append_stood from e lsn text = go (append_call e lsn text s.replica) refl
    where
      gap : (b : Bool) (r : Replica) → Stood (if b then acted s (say_appended from e r ∷ []) else still s)
      gap true r = quiet _ refl refl
      gap false r = quiet _ refl refl

      go : (o : Outcome Done) → append_call e lsn text s.replica ≡ o → Stood (append_answered from e lsn text s o)
      go (Ok New, r) i = names _ refl (append_named e lsn text s.replica r i)
      go (Ok Held, r) i = quiet _ refl refl
      go (Err (Gap last), r) i = gap (same_epoch r.at e) r
      go (Err (Older x), r) i = quiet _ refl refl
      go (Err NotMember, r) i = quiet _ refl refl
      go (Err LogFull, r) i = quiet _ refl refl
      go (Err OutOfMemory, r) i = quiet _ refl refl

  committed_catch_up : (l : ReplicationProgress) (u : ReplicaState) → (committed l u).state.catch_up ≡ u.catch_up
  committed_catch_up l u = go (nat_lt l.committed (most_confirmed (confirmed_of l (last_of u.replica))))
    where
      go : (b : Bool) →
          (let a : Acted ReplicaState = if b then commits l (most_confirmed (confirmed_of l (last_of u.replica))) u else still (record u { progress = Some l }) in a).state.catch_up
          ≡ u.catch_up
      go true = refl
      go false = refl

  pub appended_stood : (node : ℕ) (e : Epoch) (last : ℕ) → Stood (appended_received node e last s)
  unfolding appended_received
  appended_stood node e last = go (progress_of s)
    where
      by : (l : ReplicationProgress) (b : Bool) → Stood (if b then committed l s else still s)
      by l true = quiet _ (committed_catch_up l s) (committed_noted l s).silent
      by l false = quiet _ refl refl

      go : (o : Option ReplicationProgress) → Stood (appended_to node e last s o)
      go None = quiet _ refl refl
      go (Some l) = by (confirmed_by node last (last_of s.replica) l) (same_epoch s.replica.at e)

  pub write_stood : (text : List ℕ) → Stood (write_commanded text s)
  unfolding write_commanded
  write_stood text = go (progress_of s)
    where
      by : (l : ReplicationProgress) (o : Outcome Done) → append_call s.replica.at (last_of s.replica + 1) text s.replica ≡ o → Stood (write_answered text l s o)
      by l (Err (Older x), r) i = quiet _ refl refl
      by l (Err NotMember, r) i = quiet _ refl refl
      by l (Err (Gap last), r) i = quiet _ refl refl
      by l (Err LogFull, r) i = quiet _ refl refl
      by l (Err OutOfMemory, r) i = quiet _ refl refl
      by l (Ok d, r) i =
          names _ (committed_catch_up l (replica_put s r))
          (subst (λ (z : Replica). is_named z ≡ true) (sym (committed_noted l (replica_put s r)).same)
          (written_named (record { epoch = s.replica.at; lsn = length s.replica.log + 1; bytes = text }) s.replica r
          (next_added s.replica.at text s.replica d r i)))

      go : (o : Option ReplicationProgress) → Stood (write_to text s o)
      go None = quiet _ refl refl
      go (Some l) = by l (append_call s.replica.at (last_of s.replica + 1) text s.replica) refl

  pub answer_stood : (a : Acted ReplicaState) → OnlyAnswers s a → Stood a
  answer_stood a h = subst Stood (sym h.is) (quiet _ refl refl)
