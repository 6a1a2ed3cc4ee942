-- What a row of a replica records is what the replica becomes.
use Rattle.std.proofs.Common.{◌≡◌, ℕ, Bool, true, false, cond, ◌==◌, List, [], ◌∷◌, ◌++◌, Ok, Err, refl, sym, ap, ◌∙◌, subst}
use Rattle.std.specs.Prelude.{Result}
use Rattle.fabric_terms.specs.declared.record.Record.{Record}
use Rattle.ring_points.specs.declared.unit.Epoch.{Epoch}
use Rattle.ring_points.specs.Epochs.{is_older, same_epoch}
use Rattle.replica_core.specs.declared.refusal.Done.{Done}
use Rattle.replica_core.specs.declared.refusal.Done.TheVariants.{New, Held}
use Rattle.replica_core.specs.declared.refusal.ReplicaRefusal.{ReplicaRefusal}
use Rattle.replica_core.specs.declared.refusal.ReplicaRefusal.TheVariants.{Older}
use Rattle.replica_core.specs.Replicas.{Replica, raised}
use Rattle.replica_core.specs.Calls.{Outcome, unless, held_if, promise_call, adopt_own_call, adopt_collected_call}
use Rattle.replica_core.proofs.Orders.{not_itself}
use Rattle.unit_rules.specs.Deeds.{Deed, Keep, Send, Tell, Acted, records_of}
use Rattle.world_rules.specs.Above.{is_ring_record}
use Rattle.unit_rules.specs.ReplicaStates.{ReplicaState}
use Rattle.unit_rules.specs.Starts.{adopt_kept}
use Rattle.replica_records.specs.Kept.{without_role}
use Rattle.replica_records.proofs.Blind.{raised_same}
use Rattle.replica_records.proofs.Folding.{replica_after_all, AllOf}

pub record Recorded (p : ℕ) (s : ReplicaState) (a : Acted ReplicaState) : Type 0 where
  pub of : AllOf p (records_of a.deeds)
  pub folds : replica_after_all (without_role s.replica) (records_of a.deeds) ≡ without_role a.state.replica

-- Deeds that record nothing.

pub silent_join : (ds es : List Deed) → records_of ds ≡ [] → records_of es ≡ [] → records_of (ds ++ es) ≡ []
silent_join [] es a b = b
silent_join (d ∷ ds) es a b = go d a (λ h. silent_join ds es h b)
  where
    kept : (r : Record) (t : Bool) → cond t (records_of ds) (r ∷ records_of ds) ≡ [] → (records_of ds ≡ [] → records_of (ds ++ es) ≡ []) →
        cond t (records_of (ds ++ es)) (r ∷ records_of (ds ++ es)) ≡ []
    kept r true h rest = rest h
    kept r false h rest = absurd (cc (h))

    go : (d : Deed) → records_of (d ∷ ds) ≡ [] → (records_of ds ≡ [] → records_of (ds ++ es) ≡ []) → records_of (d ∷ (ds ++ es)) ≡ []
    go (Keep r) h rest = kept r (is_ring_record r) h rest
    go (Send to x) h rest = rest h
    go (Tell r) h rest = rest h

-- Tests whose outcome is known.

pub unless_off : {A : Type 0} (b : Bool) (why : ReplicaRefusal) (r : Replica) (next : Outcome A) → b ≡ false → unless b why r next ≡ next
unless_off true why r next h = absurd (cc (h))
unless_off false why r next h = refl

pub held_off : (b : Bool) (r : Replica) (next : Outcome Done) → b ≡ false → held_if b r next ≡ next
held_off true r next h = absurd (cc (h))
held_off false r next h = refl

pub held_on : (b : Bool) (r : Replica) (next : Outcome Done) → b ≡ true → held_if b r next ≡ (Ok Held, r)
held_on true r next h = refl
held_on false r next h = absurd (cc (h))

-- a refused call is not taken

abbrev pub IsTaken : Result Done ReplicaRefusal → Type 0
IsTaken (Ok d) = Unit {0}
IsTaken (Err why) = ⊥

pub refused_not : (why : ReplicaRefusal) (r t : Replica) (d : Done) → ◌≡◌ {A = Outcome Done} (Err why, r) (Ok d, t) → ⊥
refused_not why r t d k = subst (λ (o : Outcome Done). IsTaken o.0) (sym k) tt

-- what is left after a call
abbrev pub left : Outcome Done → Replica
left o = o.1

pub promise_new : (e : Epoch) (r : Replica) → is_older e r.promised ≡ false → same_epoch r.promised e ≡ false →
    (promise_call e (without_role r)).1 ≡ without_role (raised e r)
promise_new e r h i =
    ap left (unless_off {A = Done} (is_older e r.promised) (Older r.promised) (without_role r)
    (held_if (same_epoch r.promised e) (without_role r) (Ok New, raised e (without_role r))) h
    ∙ held_off (same_epoch r.promised e) (without_role r) (Ok New, raised e (without_role r)) i)
    ∙ raised_same e r

-- raising the promise to the promised epoch changes nothing but the role
pub raise_own : (r : Replica) → without_role (raised r.promised r) ≡ without_role r
raise_own r = ap (λ (b : Bool). record (without_role r) { collected = cond b [] r.collected }) (not_itself r.promised)

pub kept_zero : (e : Epoch) (last : ℕ) (r : Replica) → (last == 0) ≡ true → adopt_kept e last false r ≡ adopt_own_call e last r
kept_zero e last r z = ap (λ (b : Bool). cond b (adopt_own_call e last r) (adopt_collected_call e r)) z

pub kept_some : (e : Epoch) (last : ℕ) (r : Replica) → (last == 0) ≡ false → adopt_kept e last false r ≡ adopt_collected_call e r
kept_some e last r z = ap (λ (b : Bool). cond b (adopt_own_call e last r) (adopt_collected_call e r)) z
