-- Which calls on a replica leave it as it was.
use Rattle.std.proofs.Common.{◌≡◌, ◌∙◌, ℕ, Bool, true, false, List, Result, Ok, Err, refl, sym, ap, subst}
use Rattle.std.specs.Prelude.{◌+◌, ◌==◌, ◌&&◌, not, nat_lt, length}
use Rattle.ring_points.specs.Limits.{most_log_entries}
use Rattle.ring_points.specs.Epochs.{is_older, same_epoch}
use Rattle.replica_core.specs.declared.entry.Entry.{Entry}
use Rattle.ring_points.specs.declared.unit.Config.{Config}
use Rattle.ring_points.specs.declared.unit.Epoch.{Epoch}
use Rattle.replica_core.specs.declared.refusal.Done.{Done}
use Rattle.replica_core.specs.declared.refusal.Done.TheVariants.{New, Held}
use Rattle.replica_core.specs.declared.refusal.ReplicaRefusal.{ReplicaRefusal}
use Rattle.replica_core.specs.declared.role.Role.{Role}
use Rattle.replica_core.specs.declared.refusal.ReplicaRefusal.TheVariants.{Older, NotMember, Gap, LogFull}
use Rattle.replica_core.specs.Replicas.{Replica, collected_in, collecting, raised, settled, written}
use Rattle.replica_core.specs.Roles.{is_idle, is_member, role_of}
use Rattle.replica_core.specs.declared.role.Role.TheVariants.{IdleSecondary}
use Rattle.replica_core.specs.Calls.{Outcome, unless, held_if, is_ahead, append_call, activate_call, adopt_call, collected_call, idle_call, is_collected, is_gap, promise_call}
use Rattle.replica_core.proofs.Orders.{not_itself}

refused : {A : Type 0} (b : Bool) (why y : ReplicaRefusal) (s : Replica) (next : Outcome A) → (next.0 ≡ Err y → next.1 ≡ s) → (unless b why s next).0 ≡ Err y → (unless b why s next).1 ≡ s
refused true why y s next more e = refl
refused false why y s next more e = more e

not_refused : (role : Role) (y : ReplicaRefusal) (s t : Replica) → ◌≡◌ {A = Result Role ReplicaRefusal} (Ok role) (Err y) → t ≡ s
not_refused role y s t e = absurd (cc)

-- a refused activation changes nothing
pub activate_refused : (me : ℕ) (config : Config) (s : Replica) (y : ReplicaRefusal) → (activate_call me config s).0 ≡ Err y → (activate_call me config s).1 ≡ s
activate_refused me config s y e =
    refused (is_older config.epoch s.promised) (Older s.promised) y s _
    (refused (not (is_member me config)) NotMember y s _
    (refused (not (same_epoch s.at config.epoch)) (Gap (length s.log)) y s (Ok (role_of me config), record (raised config.epoch s) { role = role_of me config })
    (λ f. not_refused (role_of me config) y s (record (raised config.epoch s) { role = role_of me config }) f)))
    e

held : (b : Bool) (why : ReplicaRefusal) (s : Replica) (next : Outcome Done) → (next.0 ≡ Ok Held → next.1 ≡ s) → (unless b why s next).0 ≡ Ok Held → (unless b why s next).1 ≡ s
held true why s next more e = refl
held false why s next more e = more e

held_already : (b : Bool) (s : Replica) (next : Outcome Done) → (next.0 ≡ Ok Held → next.1 ≡ s) → (held_if b s next).0 ≡ Ok Held → (held_if b s next).1 ≡ s
held_already true s next more e = refl
held_already false s next more e = more e

not_held : (s t : Replica) → ◌≡◌ {A = Result Done ReplicaRefusal} (Ok New) (Ok Held) → t ≡ s
not_held s t e = absurd (cc)

-- an entry that is held changes nothing
pub append_held : (epoch : Epoch) (lsn : ℕ) (bytes : List ℕ) (s : Replica) → (append_call epoch lsn bytes s).0 ≡ Ok Held → (append_call epoch lsn bytes s).1 ≡ s
append_held epoch lsn bytes s e =
    let entry : Entry = record { epoch = epoch; lsn = lsn; bytes = bytes } in
    held (is_older epoch s.promised) (Older s.promised) s _
    (held (is_ahead epoch lsn s) (Gap (length s.log)) s _
    (held_already (nat_lt lsn (length s.log + 1)) s _
    (held (length s.log == most_log_entries) LogFull s (Ok New, written entry s) (λ f. not_held s (written entry s) f))))
    e

-- an entry that is collected already changes nothing
pub adopt_held : (e : Epoch) (x : Entry) (last : ℕ) (s t : Replica) → adopt_call e x last s ≡ (Ok Held, t) → t ≡ s
adopt_held e x last s t is =
    sym (ap (λ (o : Outcome Done). o.1) is)
    ∙ held (is_older e s.promised) (Older s.promised) s _
    (held_already (same_epoch s.at e) s _
    (held (is_gap e x.lsn s) (Gap (length (collected_in e s))) s (collected_call (x.lsn == last) e x s) (by (x.lsn == last))))
    (ap (λ (o : Outcome Done). o.0) is)
  where
    by : (b : Bool) → (collected_call b e x s).0 ≡ Ok Held → (collected_call b e x s).1 ≡ s
    by true f = not_held s (settled e (collecting e x s)) f
    by false f = held_already (is_collected e x s) s (Ok New, collecting e x s) (λ g. not_held s (collecting e x s) g) f

stays : {A : Type 0} (b : Bool) (why : ReplicaRefusal) (s : Replica) (next : Outcome A) → next.1.log ≡ s.log → (unless b why s next).1.log ≡ s.log
stays true why s next more = refl
stays false why s next more = more

-- an activation leaves the log
pub activate_log : (me : ℕ) (config : Config) (s : Replica) → (activate_call me config s).1.log ≡ s.log
activate_log me config s =
    stays (is_older config.epoch s.promised) (Older s.promised) s _
    (stays (not (is_member me config)) NotMember s _
    (stays (not (same_epoch s.at config.epoch)) (Gap (length s.log)) s (Ok (role_of me config), record (raised config.epoch s) { role = role_of me config }) refl))

-- an epoch that no greater promise forbids is taken
pub idle_taken : (e : Epoch) (s : Replica) (why : ReplicaRefusal) → is_older e s.promised ≡ false → (idle_call e s).0 ≡ Err why → ⊥
idle_taken e s why admitted refused = by (is_older e s.promised) (same_epoch s.promised e && is_idle s.role) admitted refused
  where
    by : (older held : Bool) → older ≡ false
        → (unless older (Older s.promised) s (held_if held s (Ok New, record (raised e s) { role = IdleSecondary }))).0 ≡ Err why → ⊥
    by true held admitted refused = absurd (cc)
    by false true admitted refused = absurd (cc)
    by false false admitted refused = absurd (cc)

-- no epoch above one that was promised just now is promised
pub promise_taken : (e : Epoch) (s new : Replica) (done : Done) → (Ok done, new) ≡ promise_call e s → is_older e new.promised ≡ false
promise_taken e s new done is = by (is_older e s.promised) refl is
  where
    from : (r : Replica) → new ≡ r → is_older e r.promised ≡ false → is_older e new.promised ≡ false
    from r same f = subst (λ (t : Replica). is_older e t.promised ≡ false) (sym same) f

    holds : (b : Bool) → is_older e s.promised ≡ false → (Ok done, new) ≡ held_if b s (Ok New, raised e s) → is_older e new.promised ≡ false
    holds true f is = from s (ap (λ (o : Outcome Done). o.1) is) f
    holds false f is = from (raised e s) (ap (λ (o : Outcome Done). o.1) is) (not_itself e)

    by : (b : Bool) → is_older e s.promised ≡ b → (Ok done, new) ≡ unless b (Older s.promised) s (held_if (same_epoch s.promised e) s (Ok New, raised e s))
        → is_older e new.promised ≡ false
    by true f is = let g : ◌≡◌ {A = Result Done ReplicaRefusal} (Ok done) (Err (Older s.promised)) = ap (λ (o : Outcome Done). o.0) is in absurd (cc)
    by false f is = holds (same_epoch s.promised e) f is

pub ruleset calls_stay = (activate_refused, activate_log, append_held)
