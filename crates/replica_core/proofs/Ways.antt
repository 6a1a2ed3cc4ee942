-- In which ways a call changes the promised epoch, the epoch of the log, and the log.
use Rattle.std.proofs.Common.{◌≡◌, ℕ, ◌+◌, Bool, true, false, List, [], ◌∷◌, ◌++◌, refl}
use Rattle.std.specs.Prelude.{◌==◌, ◌&&◌, nat_lt, not, length}
use Rattle.ring_points.specs.Limits.{most_log_entries}
use Rattle.ring_points.specs.declared.unit.Config.{Config}
use Rattle.ring_points.specs.declared.unit.Epoch.{Epoch}
use Rattle.ring_points.specs.Epochs.{is_older, same_epoch}
use Rattle.replica_core.specs.declared.entry.Entry.{Entry}
use Rattle.replica_core.specs.declared.refusal.Done.{Done}
use Rattle.replica_core.specs.declared.refusal.ReplicaRefusal.{ReplicaRefusal}
use Rattle.replica_core.specs.Replicas.{Replica, collected_in, collected_with}
use Rattle.replica_core.specs.Calls.{Outcome, unless, held_if, own_adopted, collected_call, is_collected, is_ahead, is_gap, is_empty, promise_call, append_call, adopt_own_call, adopt_call, adopt_collected_call, idle_call, activate_call}
use Rattle.replica_core.specs.Roles.{is_idle, is_member}
use Rattle.replica_core.specs.Histories.{Call, Promise, Append, AdoptOwn, Adopt, AdoptCollected, DropCollected, Idle, Activate, BeginAgain, after}

-- what is asked of the promised epoch, the epoch of the log, and the log, each way that a call can go
pub record Ways (P : Epoch → Epoch → List Entry → Type 0) (s : Replica) : Type 0 where
  pub stays : P s.promised s.at s.log
  pub raises : (e : Epoch) → is_older e s.promised ≡ false → P e s.at s.log
  pub writes : (entry : Entry) → P s.promised s.at (s.log ++ entry ∷ [])
  pub adopts : (e : Epoch) (log : List Entry) → is_older e s.promised ≡ false → same_epoch s.at e ≡ false → P e e log

-- a call goes one of these ways
record Goes (P : Epoch → Epoch → List Entry → Type 0) {A : Type 0} (outcome : Outcome A) : Type 0 where
  way : P outcome.1.promised outcome.1.at outcome.1.log

unless_way : (P : Epoch → Epoch → List Entry → Type 0) {A : Type 0} (b : Bool) (refusal : ReplicaRefusal) (s : Replica) (next : Outcome A)
    → Ways P s → (b ≡ false → Goes P next) → Goes P (unless b refusal s next)
unless_way P true refusal s next w go = record { way = w.stays }
unless_way P false refusal s next w go = go refl

held_way : (P : Epoch → Epoch → List Entry → Type 0) (b : Bool) (s : Replica) (next : Outcome Done)
    → Ways P s → (b ≡ false → Goes P next) → Goes P (held_if b s next)
held_way P true s next w go = record { way = w.stays }
held_way P false s next w go = go refl

own_way : (P : Epoch → Epoch → List Entry → Type 0) (s : Replica) → Ways P s → (none whole : Bool) (e : Epoch)
    → is_older e s.promised ≡ false → same_epoch s.at e ≡ false → Goes P (own_adopted none whole e s)
own_way P s w true whole e ok other = record { way = w.adopts e [] ok other }
own_way P s w false true e ok other = record { way = w.adopts e s.log ok other }
own_way P s w false false e ok other = record { way = w.stays }

collected_way : (P : Epoch → Epoch → List Entry → Type 0) (s : Replica) → Ways P s → (last : Bool) (e : Epoch) (entry : Entry)
    → is_older e s.promised ≡ false → same_epoch s.at e ≡ false → Goes P (collected_call last e entry s)
collected_way P s w true e entry ok other = record { way = w.adopts e (collected_with e entry s) ok other }
collected_way P s w false e entry ok other = held_way P (is_collected e entry s) s _ w (λ _. record { way = w.raises e ok })

promise_way : (P : Epoch → Epoch → List Entry → Type 0) (s : Replica) → Ways P s → (e : Epoch) → Goes P (promise_call e s)
promise_way P s w e =
    unless_way P (is_older e s.promised) _ s _ w
    (λ ok. held_way P (same_epoch s.promised e) s _ w (λ _. record { way = w.raises e ok }))

append_way : (P : Epoch → Epoch → List Entry → Type 0) (s : Replica) → Ways P s → (e : Epoch) (lsn : ℕ) (bytes : List ℕ) → Goes P (append_call e lsn bytes s)
append_way P s w e lsn bytes =
    unless_way P (is_older e s.promised) _ s _ w
    (λ ok. unless_way P (is_ahead e lsn s) _ s _ w
    (λ _. held_way P (nat_lt lsn (length s.log + 1)) s _ w
    (λ _. unless_way P (length s.log == most_log_entries) _ s _ w
    (λ _. record { way = w.writes (record { epoch = e; lsn = lsn; bytes = bytes }) }))))

adopt_own_way : (P : Epoch → Epoch → List Entry → Type 0) (s : Replica) → Ways P s → (e : Epoch) (last : ℕ) → Goes P (adopt_own_call e last s)
adopt_own_way P s w e last =
    unless_way P (is_older e s.promised) _ s _ w
    (λ ok. held_way P (same_epoch s.at e) s _ w (λ other. own_way P s w (last == 0) (last == length s.log) e ok other))

adopt_way : (P : Epoch → Epoch → List Entry → Type 0) (s : Replica) → Ways P s → (e : Epoch) (entry : Entry) (last : ℕ) → Goes P (adopt_call e entry last s)
adopt_way P s w e entry last =
    unless_way P (is_older e s.promised) _ s _ w
    (λ ok. held_way P (same_epoch s.at e) s _ w
    (λ other. unless_way P (is_gap e entry.lsn s) _ s _ w (λ _. collected_way P s w (entry.lsn == last) e entry ok other)))

adopt_collected_way : (P : Epoch → Epoch → List Entry → Type 0) (s : Replica) → Ways P s → (e : Epoch) → Goes P (adopt_collected_call e s)
adopt_collected_way P s w e =
    unless_way P (is_older e s.promised) _ s _ w
    (λ ok. held_way P (same_epoch s.at e) s _ w
    (λ other. unless_way P (is_empty (collected_in e s)) _ s _ w (λ _. record { way = w.adopts e (collected_in e s) ok other })))

idle_way : (P : Epoch → Epoch → List Entry → Type 0) (s : Replica) → Ways P s → (e : Epoch) → Goes P (idle_call e s)
idle_way P s w e =
    unless_way P (is_older e s.promised) _ s _ w
    (λ ok. held_way P (same_epoch s.promised e && is_idle s.role) s _ w (λ _. record { way = w.raises e ok }))

activate_way : (P : Epoch → Epoch → List Entry → Type 0) (s : Replica) → Ways P s → (me : ℕ) (config : Config) → Goes P (activate_call me config s)
activate_way P s w me config =
    unless_way P (is_older config.epoch s.promised) _ s _ w
    (λ ok. unless_way P (not (is_member me config)) _ s _ w
    (λ _. unless_way P (not (same_epoch s.at config.epoch)) _ s _ w (λ _. record { way = w.raises config.epoch ok })))

pub ways : (P : Epoch → Epoch → List Entry → Type 0) (s : Replica) → Ways P s → (call : Call) → P (after call s).promised (after call s).at (after call s).log
ways P s w (Promise e) = (promise_way P s w e).way
ways P s w (Append e lsn bytes) = (append_way P s w e lsn bytes).way
ways P s w (AdoptOwn e last) = (adopt_own_way P s w e last).way
ways P s w (Adopt e entry last) = (adopt_way P s w e entry last).way
ways P s w (AdoptCollected e) = (adopt_collected_way P s w e).way
ways P s w DropCollected = w.stays
ways P s w (Idle e) = (idle_way P s w e).way
ways P s w (Activate me config) = (activate_way P s w me config).way
ways P s w BeginAgain = w.stays
