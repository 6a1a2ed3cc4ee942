-- What stands in the list of the replicas that are named.
use Rattle.std.proofs.Common.{◌≡◌, ℕ, ◌+◌, ◌<◌, Bool, true, false, cond, ◌==◌, nat_le, List, [], ◌∷◌, Option, None, Some, refl, sym, ap, ◌∙◌, subst, arith}
use Rattle.std.proofs.lemmas.Bool.{and_parts, and_from}
use Rattle.std.proofs.lemmas.Bool.Decides.{nat_tests}
use Rattle.std.specs.Prelude.{unwrap_or}
use Rattle.fabric_lemmas.specs.Maps.{at, rises_from, rises}
use Rattle.fabric_lemmas.proofs.Maps.{rises_from-lower}
use Rattle.fabric_lemmas.proofs.SameMaps.{at-below, same_maps}
use Rattle.fabric_terms.specs.declared.record.Record.{Record}
use Rattle.replica_core.specs.Replicas.{Replica, first_replica}
use Rattle.unit_rules.specs.ReplicaStates.{ReplicaState, first_state}
use Rattle.unit_rules.specs.Starts.{Replicas, replica_of, replicas_after_all}
use Rattle.unit_rules.specs.Steps.{Failover}
use Rattle.replica_records.specs.ReplicaStates.{state_at}
use Rattle.replica_records.specs.Kept.{without_role, AreKept, IsFit}
use Rattle.replica_records.specs.Named.{is_named, named, KeptAs}
use Rattle.replica_records.proofs.Starting.{all_rise}

-- the replica, if records name it
abbrev pub shown : Replica → Option Replica
shown r = cond (is_named r) (Some r) None

pub named_rises : (low : ℕ) (es : List (ℕ × ReplicaState)) → rises_from low es ≡ true → rises_from low (named es) ≡ true
named_rises low [] h = refl
named_rises low (e ∷ es) h =
    let parts : (nat_le low e.0 ≡ true) × (rises_from (e.0 + 1) es ≡ true) = and_parts (nat_le low e.0) (rises_from (e.0 + 1) es) h in
    go (is_named e.1.replica) parts.0 (named_rises (e.0 + 1) es parts.1)
  where
    go : (b : Bool) → nat_le low e.0 ≡ true → rises_from (e.0 + 1) (named es) ≡ true →
        rises_from low (cond b ((e.0, without_role e.1.replica) ∷ named es) (named es)) ≡ true
    go true here behind = and_from (nat_le low e.0) (rises_from (e.0 + 1) (named es)) here behind
    go false here behind = rises_from-lower (e.0 + 1) low (named es) (grind (arith, nat_tests, here)) behind

-- at a partition stands its replica, if records name it
pub at_named : (low : ℕ) (es : List (ℕ × ReplicaState)) (p : ℕ) → rises_from low es ≡ true →
    at p (named es) ≡ shown (without_role (unwrap_or (at p es) (first_state p)).replica)
at_named low [] p h = refl
at_named low (e ∷ es) p h =
    let parts : (nat_le low e.0 ≡ true) × (rises_from (e.0 + 1) es ≡ true) = and_parts (nat_le low e.0) (rises_from (e.0 + 1) es) h in
    go (is_named e.1.replica) refl (e.0 == p) refl (named_rises (e.0 + 1) es parts.1) (at_named (e.0 + 1) es p parts.1)
  where
    own : Replica
    own = without_role e.1.replica

    go : (b : Bool) → is_named e.1.replica ≡ b → (c : Bool) → (e.0 == p) ≡ c → rises_from (e.0 + 1) (named es) ≡ true →
        at p (named es) ≡ shown (without_role (unwrap_or (at p es) (first_state p)).replica) →
        at p (cond b ((e.0, own) ∷ named es) (named es)) ≡ shown (without_role (unwrap_or (cond c (Some e.1) (at p es)) (first_state p)).replica)
    go true i true g up rest = ap (λ t. cond t (Some own) (at p (named es))) g ∙ sym (ap (λ t. cond t (Some own) None) i)
    go true i false g up rest = ap (λ t. cond t (Some own) (at p (named es))) g ∙ rest
    go false i true g up rest =
        let below : p < e.0 + 1 = grind (arith, nat_tests, g) in
        at-below (e.0 + 1) (named es) p below up ∙ sym (ap (λ t. cond t (Some own) None) i)
    go false i false g up rest = rest

-- records name each of the replicas
abbrev pub Full : Replicas → Type 0
Full rs = (p : ℕ) → at p rs ≡ shown (replica_of p rs)

pub named_full : (p : ℕ) (rs : Replicas) → is_named (replica_of p rs) ≡ true → at p rs ≡ shown (replica_of p rs)
named_full p rs = go (at p rs)
  where
    go : (o : Option Replica) → is_named (unwrap_or o (first_replica p)) ≡ true → o ≡ shown (unwrap_or o (first_replica p))
    go None h = absurd (cc (h))
    go (Some r) h = sym (ap (λ t. cond t (Some r) None) h)

shown_again : (p : ℕ) (x : Replica) → shown (unwrap_or (shown x) (first_replica p)) ≡ shown x
shown_again p x = go (is_named x) refl
  where
    go : (b : Bool) → is_named x ≡ b → shown (unwrap_or (cond b (Some x) None) (first_replica p)) ≡ cond b (Some x) None
    go true h = ap (λ t. cond t (Some x) None) h
    go false h = refl

pub full_named : (es : List (ℕ × ReplicaState)) → rises es ≡ true → Full (named es)
full_named es up p =
    let there : at p (named es) ≡ shown (without_role (unwrap_or (at p es) (first_state p)).replica) = at_named 0 es p up in
    there
    ∙ (sym (shown_again p (without_role (unwrap_or (at p es) (first_state p)).replica))
    ∙ sym (ap (λ o. shown (unwrap_or o (first_replica p))) there))

-- the records name each replica that they give
pub full_of : (records : List Record) (s : Failover) → KeptAs records s → Full (replicas_after_all [] records)
full_of records s k = subst Full (sym k.replicas) (full_named s.states k.rise)

-- and so, where what is recorded is what stands at each partition, it is so exactly
pub kept_as : (records : List Record) (s : Failover) → ((p : ℕ) → IsFit p (state_at p s)) → rises s.states ≡ true → AreKept records s →
    Full (replicas_after_all [] records) → KeptAs records s
kept_as records s fit up stands full = record {
  fit = fit;
  rise = up;
  stands = stands;
  replicas =
      same_maps (replicas_after_all [] records) (named s.states) (all_rise [] records refl) (named_rises 0 s.states up)
      (λ p. full p ∙ (ap shown (stands p) ∙ sym (at_named 0 s.states p up)));
}
