-- A start begins with the replicas that the records give.
use Rattle.std.proofs.Common.{◌≡◌, ℕ, ◌+◌, Bool, true, false, cond, ◌==◌, ◌&&◌, nat_le, List, [], ◌∷◌, Some, refl, sym, ap, ◌∙◌}
use Rattle.std.specs.Prelude.{map, unwrap_or}
use Rattle.fabric_lemmas.specs.Maps.{at, rises_from, rises}
use Rattle.fabric_lemmas.proofs.Maps.{rises-put}
use Rattle.fabric_terms.specs.declared.record.Record.{Record}
use Rattle.fabric_terms.specs.declared.record.Record.TheVariants.{Boot, PromisedAt, Wrote, Incoming, AdoptedAt}
use Rattle.replica_core.specs.Replicas.{Replica, first_replica, uncollected}
use Rattle.unit_rules.specs.ReplicaStates.{ReplicaState, first_state, replica_put}
use Rattle.unit_rules.specs.Starts.{Replicas, replica_of, without_collected, replicas_after, replicas_after_all}
use Rattle.replica_records.specs.Kept.{without_role}
use Rattle.replica_records.specs.Laws.{StartsGoOn, StartsAreKept, StartsRise}
use Rattle.replica_records.proofs.Folding.{after_join}
use Rattle.replica_records.proofs.Roles.{uncollected_at, all_none}

-- the states of these replicas
abbrev states_of : Replicas → List (ℕ × ReplicaState)
states_of rs = map (λ e. (e.0, replica_put (first_state e.0) e.1)) (without_collected rs)

begun_at : (rs : Replicas) (p : ℕ) → unwrap_or (at p (states_of rs)) (first_state p) ≡ replica_put (first_state p) (uncollected (replica_of p rs))
begun_at [] p = refl
begun_at (e ∷ es) p = go (e.0 == p) (begun_at es p)
  where
    go : (b : Bool) → unwrap_or (at p (states_of es)) (first_state p) ≡ replica_put (first_state p) (uncollected (replica_of p es)) →
        unwrap_or (cond b (Some (replica_put (first_state e.0) (uncollected e.1))) (at p (states_of es))) (first_state p)
        ≡ replica_put (first_state p) (uncollected (unwrap_or (cond b (Some e.1) (at p es)) (first_replica p)))
    go true rest = refl
    go false rest = rest

pub go_on_lem : StartsGoOn
go_on_lem records s kept p =
    begun_at (replicas_after_all [] records) p ∙ ap (λ (z : Replica). replica_put (first_state p) (uncollected z)) (kept p)

pub starts_kept_lem : StartsAreKept
starts_kept_lem records instance p =
    ap (replica_of p) (after_join [] records (Boot instance ∷ []))
    ∙ (uncollected_at (replicas_after_all [] records) p
    ∙ (ap uncollected (all_none [] records (λ q. refl) p)
    ∙ sym (ap (λ (z : ReplicaState). without_role z.replica) (begun_at (replicas_after_all [] records) p))))

-- The partitions rise.

without_rises : (low : ℕ) (rs : Replicas) → rises_from low (without_collected rs) ≡ rises_from low rs
without_rises low [] = refl
without_rises low (e ∷ es) = ap (λ b. nat_le low e.0 && b) (without_rises (e.0 + 1) es)

states_rise : (low : ℕ) (rs : Replicas) → rises_from low (states_of rs) ≡ rises_from low rs
states_rise low [] = refl
states_rise low (e ∷ es) = ap (λ b. nat_le low e.0 && b) (states_rise (e.0 + 1) es)

one_rises : (rs : Replicas) (x : Record) → rises rs ≡ true → rises (replicas_after rs x) ≡ true
one_rises rs (Boot instance) h = without_rises 0 rs ∙ h
one_rises rs (PromisedAt q epoch) h = rises-put q _ rs h
one_rises rs (Wrote q epoch lsn text) h = rises-put q _ rs h
one_rises rs (Incoming q epoch lsn entry_epoch text) h = rises-put q _ rs h
one_rises rs (AdoptedAt q epoch last is_own) h = rises-put q _ rs h
one_rises rs x h = h

pub all_rise : (rs : Replicas) (xs : List Record) → rises rs ≡ true → rises (replicas_after_all rs xs) ≡ true
all_rise rs [] h = h
all_rise rs (x ∷ xs) h = all_rise (replicas_after rs x) xs (one_rises rs x h)

pub starts_rise_lem : StartsRise
starts_rise_lem records = states_rise 0 (replicas_after_all [] records) ∙ all_rise [] records refl
