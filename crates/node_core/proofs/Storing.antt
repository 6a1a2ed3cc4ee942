-- Where a row of the manager or of a replica grows, the row of the whole part stores something.
use Rattle.std.proofs.Common.{◌≡◌, ℕ, Bool, true, false, ◌||◌, List, Option, None, Some, refl, ap, ◌∙◌}
use Rattle.std.specs.Prelude.{is_some, length, nat_lt}
use Rattle.fabric_lemmas.specs.Maps.{at}
use Rattle.fabric_terms.specs.declared.message.Body.{Body}
use Rattle.fabric_terms.specs.declared.report.Reason.TheVariants as reason
use Rattle.fabric_terms.specs.declared.report.Verb.TheVariants as verb
use Rattle.ring_points.specs.declared.who.Who.{Who}
use Rattle.ring_rules.specs.Rings.{Ring}
use Rattle.reconfig_phases.specs.Answers.{answered_unit}
use Rattle.unit_manager.specs.Managers.{begins_one}
use Rattle.unit_replica.specs.Memory.{grows, stores}
use Rattle.unit_replica.specs.Tables.{ReplicaStates, frame_at, write_at}
use Rattle.unit_replica.specs.Tables as tables
use Rattle.unit_rules.specs.Deeds.{Acted, refuse}
use Rattle.unit_rules.specs.Loads.{Site}
use Rattle.unit_rules.specs.Manager.{Managed}
use Rattle.unit_rules.specs.ReplicaStates.{ReplicaState}
use Rattle.unit_rules.specs.Steps as steps
use Rattle.unit_rules.specs.Steps.{Failover, by_manager, frame_row, write}
use Rattle.unit_rules.specs.Writes.{write_commanded}
use Rattle.node_core.specs.Memory.{grows_above}
use Rattle.node_core.proofs.UnitRows.{frame_is, lifted}

or_last : (a b : Bool) → (a || b || true) ≡ true
or_last true b = refl
or_last false true = refl
or_last false false = refl

pub or_first : (a b : Bool) → a ≡ true → (a || b) ≡ true
or_first true b h = refl
or_first false b h = absurd (cc (h))

-- the manager's

pub manager_grows : (s : Failover) (a : Acted Managed) → begins_one s.managed a ≡ true → grows_above s (by_manager s a) ≡ true
manager_grows s a h =
    let there : Bool = nat_lt (length s.states) (length s.states) in
    ap (λ (b : Bool). stores a || there || b) h ∙ or_last (stores a) there

-- a replica's

lifted_grows : (s : Failover) (a : Acted ReplicaStates) → grows s.states a ≡ true → grows_above s (lifted s a) ≡ true
lifted_grows s a h = or_first (grows s.states a) (nat_lt (length s.managed.reconfigs) (length s.managed.reconfigs)) h

pub replica_grows : (c : Site) (now : ℕ) (r : Ring) (x : Who) (b : Body) (s : Failover) (me : ℕ) → is_some (answered_unit b) ≡ false → r.me.actor ≡ me
    → grows s.states (frame_at me x b s.states) ≡ true → grows_above s (frame_row c now r x b s) ≡ true
replica_grows c now r x b s me a e h = rw (frame_is c now r x b s a, e) (lifted_grows s (frame_at me x b s.states) h)

-- a write, where a replica stands

found_stores : (p : ℕ) (text : List ℕ) (s : Failover) (state : Option ReplicaState)
    → stores (tables.at_found p (write_commanded text) (refuse verb.Write reason.NotPrimary s.states) s.states state) ≡ true
    → stores (steps.at_found p (write_commanded text) (refuse verb.Write reason.NotPrimary s) s state) ≡ true
found_stores p text s None h = h
found_stores p text s (Some state) h = h

pub write_stores : (p : ℕ) (text : List ℕ) (s : Failover) → stores (write_at p text s.states) ≡ true → grows_above s (write p text s) ≡ true
write_stores p text s h =
    let a : Acted Failover = write p text s in
    or_first (stores a || nat_lt (length s.states) (length a.state.states)) (nat_lt (length s.managed.reconfigs) (length a.state.managed.reconfigs))
    (or_first (stores a) (nat_lt (length s.states) (length a.state.states)) (found_stores p text s (at p s.states) h))

pub ruleset command_stores = (or_first, write_stores)
