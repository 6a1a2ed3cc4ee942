-- The rows of Promise, Sync, Fetch and Activate.
use Rattle.std.proofs.Common.{◌≡◌, ℕ, Bool, true, false, ◌==◌, ◌||◌, [], ◌∷◌, length, Option, None, Some, Ok, Err, refl, sym, ap, ◌∙◌, subst}
use Rattle.std.specs.Prelude.{not, ◌&&◌, if◌then◌else◌}
use Rattle.ring_points.specs.declared.unit.Config.{Config}
use Rattle.ring_points.specs.declared.unit.Epoch.{Epoch}
use Rattle.ring_points.specs.declared.who.Who.{Who}
use Rattle.ring_points.specs.Epochs.{is_older, same_epoch}
use Rattle.fabric_terms.specs.declared.message.Body.TheVariants as body
use Rattle.replica_core.specs.declared.entry.Entry.{Entry}
use Rattle.replica_core.specs.declared.refusal.Done.{Done}
use Rattle.replica_core.specs.declared.refusal.Done.TheVariants.{New}
use Rattle.replica_core.specs.declared.refusal.ReplicaRefusal.{ReplicaRefusal}
use Rattle.replica_core.specs.declared.refusal.ReplicaRefusal.TheVariants.{Older, NotMember, Gap}
use Rattle.replica_core.specs.declared.role.Role.{Role}
use Rattle.replica_core.specs.declared.role.Role.TheVariants.{None as NoRole, IdleSecondary, ActiveSecondary, Primary}
use Rattle.replica_core.specs.Roles.{is_idle, is_member, role_of}
use Rattle.replica_core.specs.Replicas.{Replica, raised}
use Rattle.replica_core.specs.Calls.{Outcome, unless, held_if, idle_call, adopt_own_call}
use Rattle.replica_core.proofs.Orders.{is_between, same_is}
use Rattle.unit_rules.specs.declared.progress.CatchUp.{CatchUp}
use Rattle.unit_rules.specs.Activations.{same_role, say_activated, role_begun, activate_answered, activate_received}
use Rattle.unit_rules.specs.Copies.{nothing_adopted, log_adopted, fetch_next, own_adopted, log_taken, copy_begun, sync_taken, sync_answered, sync_received, entry_given, fetch_received}
use Rattle.unit_rules.specs.Deeds.{Send, Acted, acted, still, records_of}
use Rattle.unit_rules.specs.Promises.{promise_answered, promise_received}
use Rattle.unit_rules.specs.ReplicaStates.{ReplicaState, replica_put, last_of, entry_at}
use Rattle.replica_records.specs.Kept.{without_role}
use Rattle.replica_records.proofs.Blind.{own_blind}
use Rattle.replica_records.proofs.Folding.{replica_after_all}
use Rattle.replica_records.proofs.Recorded.{Recorded, left, promise_new, raise_own, kept_zero}

keeps_unless : (b : Bool) (why : ReplicaRefusal) (r : Replica) (next : Outcome Done) → without_role next.1 ≡ without_role r →
    without_role (left (unless b why r next)) ≡ without_role r
keeps_unless true why r next h = refl
keeps_unless false why r next h = h

keeps_held : (b : Bool) (r : Replica) (next : Outcome Done) → without_role next.1 ≡ without_role r → without_role (left (held_if b r next)) ≡ without_role r
keeps_held true r next h = refl
keeps_held false r next h = h

pub idle_same : (r : Replica) → without_role (left (idle_call r.promised r)) ≡ without_role r
idle_same r =
    keeps_unless (is_older r.promised r.promised) (Older r.promised) r
    (held_if (same_epoch r.promised r.promised && is_idle r.role) r (Ok New, record (raised r.promised r) { role = IdleSecondary }))
    (keeps_held (same_epoch r.promised r.promised && is_idle r.role) r (Ok New, record (raised r.promised r) { role = IdleSecondary }) (raise_own r))

module _ (p : ℕ) where
  pub promise_recorded : (s : ReplicaState) → s.replica.partition ≡ p → (from : Who) (e : Epoch) → Recorded p s (promise_received from e s)
  unfolding promise_received
  promise_recorded s here from e = go (is_older e s.replica.promised) refl (same_epoch s.replica.promised e) refl
    where
      go : (older : Bool) → is_older e s.replica.promised ≡ older → (same : Bool) → same_epoch s.replica.promised e ≡ same →
          Recorded p s (promise_answered from e s (unless older (Older s.replica.promised) s.replica (held_if same s.replica (Ok New, raised e s.replica))))
      go true h same i = record { of = tt; folds = refl }
      go false h true i = record { of = tt; folds = refl }
      go false h false i = record { of = (here, tt); folds = promise_new e s.replica h i }

  module _ (me : ℕ) (t : CatchUp) where
    own_recorded : (s u : ReplicaState) → s.replica.partition ≡ p → without_role s.replica ≡ without_role u.replica → (o : Outcome Done) →
        adopt_own_call t.epoch t.last u.replica ≡ o → Recorded p s (own_adopted t u o)
    own_recorded s u here same (Err why, r) i = record { of = tt; folds = same }
    own_recorded s u here same (Ok d, r) i = adopts (t.last == 0) refl
      where
        part : r.partition ≡ p
        part =
            sym (ap (λ (o : Outcome Done). o.1.partition) i) ∙ (own_blind t.epoch t.last u.replica).partition
            ∙ sym (ap (λ (z : Replica). z.partition) same) ∙ here

        done : left (adopt_own_call t.epoch t.last (without_role s.replica)) ≡ without_role r
        done =
            ap (λ (z : Replica). left (adopt_own_call t.epoch t.last z)) same ∙ (own_blind t.epoch t.last u.replica).same
            ∙ ap (λ (o : Outcome Done). without_role o.1) i

        adopts : (none : Bool) → (t.last == 0) ≡ none →
            Recorded p s (acted (replica_put u r) (if none then nothing_adopted r.partition t else log_adopted r.partition t true))
        adopts true z = record { of = (part, tt); folds = ap left (kept_zero t.epoch t.last (without_role s.replica) z) ∙ done }
        adopts false z = record { of = (part, tt); folds = done }

    log_recorded : (s u : ReplicaState) → s.replica.partition ≡ p → without_role s.replica ≡ without_role u.replica → Recorded p s (log_taken me t u)
    log_recorded s u here same = go (t.last == 0 || t.origin == me)
      where
        go : (b : Bool) → Recorded p s (if b then own_adopted t u (adopt_own_call t.epoch t.last u.replica) else acted u (fetch_next t u.replica ∷ []))
        go true = own_recorded s u here same (adopt_own_call t.epoch t.last u.replica) refl
        go false = record { of = tt; folds = same }

    taken_recorded : (s : ReplicaState) → s.replica.partition ≡ p → s.replica.promised ≡ t.epoch → Recorded p s (sync_taken me t s)
    taken_recorded s here promised = go (same_epoch s.replica.at t.epoch)
      where
        go : (b : Bool) →
            Recorded p s
            (if b then acted s (Send t.asker (body.Adopted s.replica.partition t.epoch (last_of s.replica)) ∷ []) else copy_begun me t s)
        go true = record { of = tt; folds = refl }
        go false =
            log_recorded s (record s { replica = (idle_call t.epoch s.replica).1; catch_up = Some t }) here
            (sym (subst (λ e. without_role (left (idle_call e s.replica)) ≡ without_role s.replica) promised (idle_same s.replica)))

    pub sync_recorded : (s : ReplicaState) → s.replica.partition ≡ p → Recorded p s (sync_received me t s)
    unfolding sync_received
    sync_recorded s here = go (is_older t.epoch s.replica.promised) refl (same_epoch s.replica.promised t.epoch) refl
      where
        go : (older : Bool) → is_older t.epoch s.replica.promised ≡ older → (same : Bool) → same_epoch s.replica.promised t.epoch ≡ same →
            Recorded p s (sync_answered me t s (unless older (Older s.replica.promised) s.replica (held_if same s.replica (Ok New, raised t.epoch s.replica))))
        go true h same i = record { of = tt; folds = refl }
        go false h true i = taken_recorded s here (same_is s.replica.promised t.epoch i)
        go false h false i =
            let next : Recorded p (replica_put s (raised t.epoch s.replica)) (sync_taken me t (replica_put s (raised t.epoch s.replica)))
            = taken_recorded (replica_put s (raised t.epoch s.replica)) here refl in
            let a : Acted ReplicaState = sync_taken me t (replica_put s (raised t.epoch s.replica)) in
            record {
              of = (here, next.of);
              folds = ap (λ (z : Replica). replica_after_all z (records_of a.deeds)) (promise_new t.epoch s.replica h i) ∙ next.folds;
            }

  pub fetch_recorded : (s : ReplicaState) (from : Who) (e : Epoch) (lsn : ℕ) → Recorded p s (fetch_received from e lsn s)
  unfolding fetch_received
  fetch_recorded s from e lsn = go (same_epoch s.replica.promised e)
    where
      given : (o : Option Entry) → Recorded p s (entry_given from e s o)
      given None = record { of = tt; folds = refl }
      given (Some entry) = record { of = tt; folds = refl }

      go : (b : Bool) → Recorded p s (if b then entry_given from e s (entry_at lsn s.replica.log) else still s)
      go true = given (entry_at lsn s.replica.log)
      go false = record { of = tt; folds = refl }

  pub activate_recorded : (s : ReplicaState) → is_older s.replica.promised s.replica.at ≡ false → (me : ℕ) (from : Who) (config : Config) →
      Recorded p s (activate_received me from config s)
  unfolding activate_received
  activate_recorded s behind me from config =
      go (is_older config.epoch s.replica.promised) refl (not (is_member me config)) (same_epoch s.replica.at config.epoch) refl
    where
      takes : (b : Bool) (role : Role) (r : Replica) → without_role s.replica ≡ without_role r →
          Recorded p s (if b then acted s (say_activated from config ∷ []) else role_begun me from config s r role)
      takes true role r same = record { of = tt; folds = refl }
      takes false NoRole r same = record { of = tt; folds = same }
      takes false IdleSecondary r same = record { of = tt; folds = same }
      takes false ActiveSecondary r same = record { of = tt; folds = same }
      takes false Primary r same = record { of = tt; folds = same }

      go : (older : Bool) → is_older config.epoch s.replica.promised ≡ older → (other : Bool) → (same : Bool) → same_epoch s.replica.at config.epoch ≡ same →
          Recorded p s
          (activate_answered me from config s
          (unless older (Older s.replica.promised) s.replica
          (unless other NotMember s.replica
          (unless (not same) (Gap (length s.replica.log)) s.replica
          (Ok (role_of me config), record (raised config.epoch s.replica) { role = role_of me config })))))
      go true h other same i = record { of = tt; folds = refl }
      go false h true same i = record { of = tt; folds = refl }
      go false h false false i = record { of = tt; folds = refl }
      go false h false true i =
          let promised : s.replica.promised ≡ config.epoch =
          is_between config.epoch s.replica.promised (subst (λ e. is_older s.replica.promised e ≡ false) (same_is s.replica.at config.epoch i) behind) h in
          takes (same_role s.replica.role (role_of me config)) (role_of me config) (record (raised config.epoch s.replica) { role = role_of me config })
          (sym (subst (λ e. without_role (raised e s.replica) ≡ without_role s.replica) promised (raise_own s.replica)))
