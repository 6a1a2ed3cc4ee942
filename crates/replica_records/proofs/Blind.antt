-- The calls that records make do not ask for the role.
use Rattle.std.proofs.Common.{◌≡◌, ℕ, Bool, true, false, cond, List, [], Ok, refl, ap}
use Rattle.std.specs.Prelude.{length, ◌==◌, ◌+◌, nat_lt}
use Rattle.ring_points.specs.Limits.{most_log_entries}
use Rattle.ring_points.specs.declared.unit.Epoch.{Epoch}
use Rattle.ring_points.specs.Epochs.{is_older, same_epoch}
use Rattle.replica_core.specs.declared.entry.Entry.{Entry}
use Rattle.replica_core.specs.declared.refusal.Done.{Done}
use Rattle.replica_core.specs.declared.refusal.Done.TheVariants.{New}
use Rattle.replica_core.specs.declared.refusal.ReplicaRefusal.{ReplicaRefusal}
use Rattle.replica_core.specs.declared.refusal.ReplicaRefusal.TheVariants.{Older, Gap}
use Rattle.replica_core.specs.declared.role.Role.{Role}
use Rattle.replica_core.specs.declared.role.Role.TheVariants.{None as NoRole}
use Rattle.replica_core.specs.Roles.{demoted}
use Rattle.replica_core.specs.Replicas.{Replica, raised, settled, collecting, collected_in, collected_with}
use Rattle.replica_core.specs.Calls.{Outcome, unless, held_if, own_adopted, collected_call, is_collected, is_empty, promise_call, append_call, adopt_own_call, adopt_call, adopt_collected_call}
use Rattle.replica_records.specs.Kept.{without_role}

-- what the call makes of a replica, and of the same without a role
pub record Blind (r : Replica) (seen unseen : Outcome Done) : Type 0 where
  pub same : unseen.1 ≡ without_role seen.1
  pub partition : seen.1.partition ≡ r.partition

unless_blind : (t : Bool) (why : ReplicaRefusal) (r : Replica) (a b : Outcome Done) → Blind r a b → Blind r (unless t why r a) (unless t why (without_role r) b)
unless_blind true why r a b h = record { same = refl; partition = refl }
unless_blind false why r a b h = h

held_blind : (t : Bool) (r : Replica) (a b : Outcome Done) → Blind r a b → Blind r (held_if t r a) (held_if t (without_role r) b)
held_blind true r a b h = record { same = refl; partition = refl }
held_blind false r a b h = h

no_role : (b : Bool) → cond b (demoted NoRole) NoRole ≡ NoRole
no_role true = refl
no_role false = refl

pub raised_same : (e : Epoch) (r : Replica) → raised e (without_role r) ≡ without_role (raised e r)
raised_same e r = ap (λ (z : Role). record (without_role (raised e r)) { role = z }) (no_role (is_older r.promised e))

collecting_same : (e : Epoch) (x : Entry) (r : Replica) → collecting e x (without_role r) ≡ without_role (collecting e x r)
collecting_same e x r = ap (λ (z : Replica). record z { collected = collected_with e x r }) (raised_same e r)

pub promise_blind : (e : Epoch) (r : Replica) → Blind r (promise_call e r) (promise_call e (without_role r))
promise_blind e r =
    unless_blind (is_older e r.promised) _ r _ _
    (held_blind (same_epoch r.promised e) r _ _ (record { same = raised_same e r; partition = refl }))

pub append_blind : (e : Epoch) (lsn : ℕ) (text : List ℕ) (r : Replica) → Blind r (append_call e lsn text r) (append_call e lsn text (without_role r))
append_blind e lsn text r =
    unless_blind (is_older e r.promised) _ r _ _
    (unless_blind _ _ r _ _
    (held_blind (nat_lt lsn (length r.log + 1)) r _ _
    (unless_blind (length r.log == most_log_entries) _ r _ _ (record { same = refl; partition = refl }))))

pub own_blind : (e : Epoch) (last : ℕ) (r : Replica) → Blind r (adopt_own_call e last r) (adopt_own_call e last (without_role r))
own_blind e last r =
    unless_blind (is_older e r.promised) _ r _ _
    (held_blind (same_epoch r.at e) r _ _ (go (last == 0) (last == length r.log)))
  where
    go : (none whole : Bool) → Blind r (own_adopted none whole e r) (own_adopted none whole e (without_role r))
    go true whole = record { same = ap (λ (z : Replica). record z { at = e; log = [] }) (raised_same e r); partition = refl }
    go false true = record { same = ap (λ (z : Replica). record z { at = e; log = r.log }) (raised_same e r); partition = refl }
    go false false = record { same = refl; partition = refl }

pub adopt_blind : (e : Epoch) (x : Entry) (last : ℕ) (r : Replica) → Blind r (adopt_call e x last r) (adopt_call e x last (without_role r))
adopt_blind e x last r =
    unless_blind (is_older e r.promised) _ r _ _
    (held_blind (same_epoch r.at e) r _ _
    (unless_blind _ _ r _ _ (go (x.lsn == last))))
  where
    go : (b : Bool) → Blind r (collected_call b e x r) (collected_call b e x (without_role r))
    go true = record { same = ap (settled e) (collecting_same e x r); partition = refl }
    go false = held_blind (is_collected e x r) r _ _ (record { same = collecting_same e x r; partition = refl })

pub collected_blind : (e : Epoch) (r : Replica) → Blind r (adopt_collected_call e r) (adopt_collected_call e (without_role r))
collected_blind e r =
    unless_blind (is_older e r.promised) (Older r.promised) r
    (held_if (same_epoch r.at e) r (unless (is_empty (collected_in e r)) (Gap 0) r (Ok New, settled e (raised e r))))
    (held_if (same_epoch r.at e) (without_role r)
    (unless (is_empty (collected_in e r)) (Gap 0) (without_role r) (Ok New, settled e (raised e (without_role r)))))
    (held_blind (same_epoch r.at e) r
    (unless (is_empty (collected_in e r)) (Gap 0) r (Ok New, settled e (raised e r)))
    (unless (is_empty (collected_in e r)) (Gap 0) (without_role r) (Ok New, settled e (raised e (without_role r))))
    (unless_blind (is_empty (collected_in e r)) (Gap 0) r (Ok New, settled e (raised e r)) (Ok New, settled e (raised e (without_role r)))
    (record { same = ap (settled e) (raised_same e r); partition = refl })))
