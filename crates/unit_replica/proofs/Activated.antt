-- What an activation leaves, where no role begins.
use Rattle.std.proofs.Common.{◌≡◌, ℕ, Bool, true, false, List, [], ◌∷◌, length, Result, Ok, Err, refl, sym, subst, ap, ◌∙◌}
use Rattle.std.specs.Prelude.{not}
use Rattle.ring_points.specs.declared.unit.Config.{Config}
use Rattle.ring_points.specs.declared.unit.Epoch.{Epoch}
use Rattle.ring_points.specs.declared.who.Who.{Who}
use Rattle.ring_points.specs.Epochs.{is_older, same_epoch}
use Rattle.replica_core.specs.declared.entry.Entry.{Entry}
use Rattle.replica_core.specs.declared.refusal.ReplicaRefusal.{ReplicaRefusal}
use Rattle.replica_core.specs.declared.refusal.ReplicaRefusal.TheVariants.{Older, NotMember, Gap}
use Rattle.replica_core.specs.declared.role.Role.{Role}
use Rattle.replica_core.specs.declared.role.Role.TheVariants.{None as NoRole, IdleSecondary, ActiveSecondary, Primary}
use Rattle.replica_core.specs.Replicas.{Replica, IsSound, collected_in, raised}
use Rattle.replica_core.specs.Roles.{is_member, role_of}
use Rattle.replica_core.specs.Calls.{Outcome, unless, activate_call}
use Rattle.replica_core.proofs.Orders.{is_between, same_is}
use Rattle.unit_rules.specs.ReplicaStates.{ReplicaState, replica_put}
use Rattle.unit_rules.specs.Promises.{say_older}
use Rattle.unit_rules.specs.Activations.{activate_answered, activate_received, same_role, say_activated}
use Rattle.unit_desk.specs.declared.unit_effects.UnitEffects.{UnitEffects}
use Rattle.unit_desk.specs.UnitEffects.{Does, Left}
use Rattle.unit_replica.proofs.Calls.{activate_refused}

itself : (a : Role) → same_role a a ≡ true
itself NoRole = refl
itself IdleSecondary = refl
itself ActiveSecondary = refl
itself Primary = refl

same_replica : (s : Replica) (e : Epoch) (role : Role) (xs : List Entry) → e ≡ s.promised → role ≡ s.role → xs ≡ s.collected → record s { promised = e; role = role; collected = xs } ≡ s
same_replica s e role xs p q u = λ j. record s { promised = p j; role = q j; collected = u j }

same_ok : (a b : Role) → ◌≡◌ {A = Result Role ReplicaRefusal} (Ok a) (Ok b) → a ≡ b
same_ok a b e = cc

-- a replica that has the role already is as it was
activate_again : (me : ℕ) (config : Config) (s : Replica) → IsSound s → (activate_call me config s).0 ≡ Ok s.role → (activate_call me config s).1 ≡ s
activate_again me config s sound = by (is_older config.epoch s.promised) refl (is_member me config) (same_epoch s.at config.epoch) refl
  where
    called : Bool → Bool → Bool → Outcome Role
    called older member same =
        unless older (Older s.promised) s (
        unless (not member) NotMember s (
        unless (not same) (Gap (length s.log)) s (Ok (role_of me config), record (raised config.epoch s) { role = role_of me config })))

    by : (older : Bool) → is_older config.epoch s.promised ≡ older → (member same : Bool) → same_epoch s.at config.epoch ≡ same → (called older member same).0 ≡ Ok s.role → (called older member same).1 ≡ s
    by true o m t f e = refl
    by false o false t f e = refl
    by false o true false f e = refl
    by false o true true f e =
        let at_is : s.at ≡ config.epoch = same_is s.at config.epoch f in
        let P : Epoch → Type 0 = λ a. is_older s.promised a ≡ false in
        let above : is_older s.promised config.epoch ≡ false = subst P at_is sound.at_promised in
        let promised_is : s.promised ≡ config.epoch = is_between config.epoch s.promised above o in
        let kept : collected_in config.epoch s ≡ s.collected = rw above refl in
        same_replica s config.epoch (role_of me config) (collected_in config.epoch s) (sym promised_is) (same_ok (role_of me config) s.role e) kept

pub does_refused : (me : ℕ) (asker : Who) (config : Config) (s : ReplicaState) (t : Replica) (y : ReplicaRefusal) (before after : UnitEffects)
    → ◌≡◌ {A = Outcome Role} (Err y, t) (activate_call me config s.replica) → Left (say_older asker config.partition config.epoch y) before after
    → Does (activate_received me asker config s) (replica_put s t) before after
unfolding activate_received
does_refused me asker config s t y before after e l =
    let same : t ≡ s.replica = ap (λ (o : Outcome Role). o.1) e ∙ activate_refused me config s.replica y (sym (ap (λ (o : Outcome Role). o.0) e)) in
    subst (λ (o : Outcome Role). Does (activate_answered me asker config s o) (replica_put s t) before after) e
    (record { state = ap (λ (r : Replica). replica_put s r) same; left = l })

pub does_again : (me : ℕ) (asker : Who) (config : Config) (s : ReplicaState) (t : Replica) (role : Role) (before after : UnitEffects) → IsSound s.replica
    → ◌≡◌ {A = Outcome Role} (Ok role, t) (activate_call me config s.replica) → role ≡ s.replica.role → Left (say_activated asker config ∷ []) before after
    → Does (activate_received me asker config s) (replica_put s t) before after
unfolding activate_received
does_again me asker config s t role before after sound e again l =
    let told : (activate_call me config s.replica).0 ≡ Ok s.replica.role = sym (ap (λ (o : Outcome Role). o.0) e) ∙ ap (λ (r : Role). Ok r) again in
    let same : t ≡ s.replica = ap (λ (o : Outcome Role). o.1) e ∙ activate_again me config s.replica sound told in
    let stands : same_role s.replica.role role ≡ true = subst (λ (r : Role). same_role s.replica.role r ≡ true) (sym again) (itself s.replica.role) in
    subst (λ (o : Outcome Role). Does (activate_answered me asker config s o) (replica_put s t) before after) e
    (rw stands (record { state = ap (λ (r : Replica). replica_put s r) same; left = l }))
