-- A call that is taken makes its epoch the promised one.
use Rattle.std.proofs.Common.{◌≡◌, ℕ, Bool, true, false, List, Some, Ok, refl, subst}
use Rattle.std.specs.Prelude.{◌+◌, ◌==◌, ◌&&◌, ◌||◌, not, nat_lt, length}
use Rattle.ring_points.specs.Limits.{most_log_entries}
use Rattle.ring_points.specs.declared.unit.Epoch.{Epoch}
use Rattle.ring_points.specs.Epochs.{is_older, same_epoch}
use Rattle.replica_core.specs.declared.entry.Entry.{Entry}
use Rattle.replica_core.specs.declared.refusal.Done.{Done}
use Rattle.replica_core.specs.declared.refusal.Done.TheVariants.{New, Held}
use Rattle.replica_core.specs.declared.refusal.ReplicaRefusal.{ReplicaRefusal}
use Rattle.replica_core.specs.Replicas.{Replica, collected_in}
use Rattle.replica_core.specs.declared.role.Role.{Role}
use Rattle.replica_core.specs.Roles.{is_idle, is_member, role_of}
use Rattle.ring_points.specs.declared.unit.Config.{Config}
use Rattle.replica_core.specs.Calls.{Outcome, unless, held_if, own_adopted, collected_call, is_collected, is_ahead, is_gap, is_empty, promise_call, append_call, adopt_own_call, adopt_call, adopt_collected_call, idle_call, activate_call}
use Rattle.replica_core.specs.Histories.{Promise, Append, AdoptOwn, Adopt, AdoptCollected, DropCollected, Idle, Activate, BeginAgain, taken_epoch, after, after_all}
use Rattle.replica_core.specs.Laws.{IsNotAhead, Promising, NoOlderEntry}
use Rattle.replica_core.proofs.Orders.{none_falls, same_is, is_between}
use Rattle.replica_core.proofs.Risen.{never_falling}

-- if it is taken, its epoch is the promised one
record Promises (e : Epoch) {A : Type 0} (outcome : Outcome A) : Type 0 where
  promised : (earlier : Epoch) → taken_epoch e outcome.0 ≡ Some earlier → outcome.1.promised ≡ earlier

accepted : (A : Type 0) (e : Epoch) (x : A) (s : Replica) → s.promised ≡ e → Promises e {A = A} (Ok x, s)
accepted A e x s same = record { promised = λ earlier taken. cc }

unless_promises : (e : Epoch) {A : Type 0} (b : Bool) (refusal : ReplicaRefusal) (s : Replica) (next : Outcome A)
    → (b ≡ false → Promises e next) → Promises e (unless b refusal s next)
unless_promises e true refusal s next go = record { promised = λ earlier taken. absurd (cc) }
unless_promises e false refusal s next go = go refl

held_promises : (e : Epoch) (b : Bool) (s : Replica) (next : Outcome Done)
    → (b ≡ true → s.promised ≡ e) → (b ≡ false → Promises e next) → Promises e (held_if b s next)
held_promises e true s next same go = accepted Done e Held s (same refl)
held_promises e false s next same go = go refl

own_promises : (none whole : Bool) (e : Epoch) (s : Replica) → Promises e (own_adopted none whole e s)
own_promises true whole e s = accepted Done e New _ refl
own_promises false true e s = accepted Done e New _ refl
own_promises false false e s = record { promised = λ earlier taken. absurd (cc) }

-- the log is of the epoch, so the epoch is promised
at_is_promised : (e : Epoch) (s : Replica) → IsNotAhead s → is_older e s.promised ≡ false → same_epoch s.at e ≡ true → s.promised ≡ e
at_is_promised e s behind ok same =
    let P : Epoch → Type 0 = λ a. is_older s.promised a ≡ false in
    is_between e s.promised (subst P (same_is s.at e same) behind) ok

both : (a b : Bool) → (a && b) ≡ true → a ≡ true
both true b e = refl
both false b e = e

none : (a : Bool) → not a ≡ false → a ≡ true
none true e = refl
none false e = absurd (cc)

either : (a b : Bool) → (not a || b) ≡ false → a ≡ true
either true b e = refl
either false b e = absurd (cc)

collected_promises : (last : Bool) (e : Epoch) (entry : Entry) (s : Replica) → Promises e (collected_call last e entry s)
collected_promises true e entry s = accepted Done e New _ refl
collected_promises false e entry s =
    held_promises e (is_collected e entry s) s _ (λ t. same_is s.promised e (both (same_epoch s.promised e) _ t)) (λ _. accepted Done e New _ refl)

promise_promises : (s : Replica) (e : Epoch) → Promises e (promise_call e s)
promise_promises s e =
    unless_promises e (is_older e s.promised) _ s _
    (λ ok. held_promises e (same_epoch s.promised e) s _ (same_is s.promised e) (λ _. accepted Done e New _ refl))

append_promises : (s : Replica) → IsNotAhead s → (e : Epoch) (lsn : ℕ) (bytes : List ℕ) → Promises e (append_call e lsn bytes s)
append_promises s behind e lsn bytes =
    unless_promises e (is_older e s.promised) _ s _
    (λ ok. unless_promises e (is_ahead e lsn s) _ s _
    (λ near. let same : s.promised ≡ e = at_is_promised e s behind ok (either (same_epoch s.at e) _ near) in
    held_promises e (nat_lt lsn (length s.log + 1)) s _ (λ _. same)
    (λ _. unless_promises e (length s.log == most_log_entries) _ s _ (λ _. accepted Done e New _ same))))

adopt_own_promises : (s : Replica) → IsNotAhead s → (e : Epoch) (last : ℕ) → Promises e (adopt_own_call e last s)
adopt_own_promises s behind e last =
    unless_promises e (is_older e s.promised) _ s _
    (λ ok. held_promises e (same_epoch s.at e) s _ (at_is_promised e s behind ok) (λ _. own_promises (last == 0) (last == length s.log) e s))

adopt_promises : (s : Replica) → IsNotAhead s → (e : Epoch) (entry : Entry) (last : ℕ) → Promises e (adopt_call e entry last s)
adopt_promises s behind e entry last =
    unless_promises e (is_older e s.promised) _ s _
    (λ ok. held_promises e (same_epoch s.at e) s _ (at_is_promised e s behind ok)
    (λ _. unless_promises e (is_gap e entry.lsn s) _ s _ (λ _. collected_promises (entry.lsn == last) e entry s)))

adopt_collected_promises : (s : Replica) → IsNotAhead s → (e : Epoch) → Promises e (adopt_collected_call e s)
adopt_collected_promises s behind e =
    unless_promises e (is_older e s.promised) _ s _
    (λ ok. held_promises e (same_epoch s.at e) s _ (at_is_promised e s behind ok)
    (λ _. unless_promises e (is_empty (collected_in e s)) _ s _ (λ _. accepted Done e New _ refl)))

idle_promises : (s : Replica) (e : Epoch) → Promises e (idle_call e s)
idle_promises s e =
    unless_promises e (is_older e s.promised) _ s _
    (λ ok. held_promises e (same_epoch s.promised e && is_idle s.role) s _
    (λ t. same_is s.promised e (both (same_epoch s.promised e) _ t)) (λ _. accepted Done e New _ refl))

activate_promises : (s : Replica) (me : ℕ) (config : Config) → Promises config.epoch (activate_call me config s)
activate_promises s me config =
    unless_promises config.epoch (is_older config.epoch s.promised) _ s _
    (λ ok. unless_promises config.epoch (not (is_member me config)) _ s _
    (λ _. unless_promises config.epoch (not (same_epoch s.at config.epoch)) _ s _ (λ _. accepted Role config.epoch (role_of me config) _ refl)))

pub promising : Promising
promising (Promise e) s earlier behind taken = (promise_promises s e).promised earlier taken
promising (Append e lsn bytes) s earlier behind taken = (append_promises s behind e lsn bytes).promised earlier taken
promising (AdoptOwn e last) s earlier behind taken = (adopt_own_promises s behind e last).promised earlier taken
promising (Adopt e entry last) s earlier behind taken = (adopt_promises s behind e entry last).promised earlier taken
promising (AdoptCollected e) s earlier behind taken = (adopt_collected_promises s behind e).promised earlier taken
promising DropCollected s earlier behind taken = absurd (cc)
promising (Idle e) s earlier behind taken = (idle_promises s e).promised earlier taken
promising (Activate me config) s earlier behind taken = (activate_promises s me config).promised earlier taken
promising BeginAgain s earlier behind taken = absurd (cc)

not_refused : (b : Bool) (refusal : ReplicaRefusal) (s : Replica) (next : Outcome Done) → (unless b refusal s next).0 ≡ Ok New → b ≡ false
not_refused true refusal s next new = absurd (cc)
not_refused false refusal s next new = refl

pub no_older_entry : NoOlderEntry
no_older_entry s first calls earlier e lsn bytes behind taken new =
    let t : Replica = after_all calls (after first s) in
    let Above : Epoch → Type 0 = λ a. is_older t.promised a ≡ false in
    let kept : is_older t.promised earlier ≡ false = subst Above (promising first s earlier behind taken) (never_falling calls (after first s)) in
    none_falls earlier t.promised e kept (not_refused (is_older e t.promised) _ t _ new)
