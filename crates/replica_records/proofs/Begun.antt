-- A start begins with the replicas that are named.
use Rattle.std.proofs.Common.{◌≡◌, ℕ, ◌+◌, ◌<◌, Bool, true, false, cond, ◌==◌, nat_le, [], ◌∷◌, ◌++◌, None, Some, refl, sym, ap, ◌∙◌, subst, arith}
use Rattle.std.proofs.lemmas.Bool.{and_parts, eq-eqb}
use Rattle.std.proofs.lemmas.Bool.Decides.{nat_tests}
use Rattle.std.proofs.lemmas.List.Elements.{All-nil, All-cons}
use Rattle.std.proofs.lemmas.Option.{same_Some}
use Rattle.std.specs.Prelude.{map, option_map, All}
use Rattle.fabric_lemmas.specs.Maps.{at, rises_from}
use Rattle.fabric_lemmas.proofs.SameMaps.{at-below}
use Rattle.fabric_terms.specs.declared.record.Record.TheVariants.{Boot}
use Rattle.replica_core.specs.Replicas.{Replica, uncollected}
use Rattle.unit_rules.specs.ReplicaStates.{ReplicaState, first_state, replica_put}
use Rattle.unit_rules.specs.Starts.{Replicas, replica_of, without_collected, replicas_after_all}
use Rattle.unit_rules.specs.Steps.{failover_begun}
use Rattle.replica_records.specs.ReplicaStates.{state_at, begun_again}
use Rattle.replica_records.specs.Kept.{without_role, IsFit}
use Rattle.replica_records.specs.Laws.{NothingIsKept, StartsStayKept, ReplicaStatesAreKept, StartsBeginAgain}
use Rattle.replica_records.specs.Named.{is_named, named, states_of, KeptAs}
use Rattle.replica_records.proofs.Folding.{after_join}
use Rattle.replica_records.proofs.Named.{shown, Full, named_rises, at_named, full_of, kept_as}
use Rattle.replica_records.proofs.Roles.{uncollected_at}
use Rattle.replica_records.proofs.Starting.{go_on_lem, starts_kept_lem, starts_rise_lem}

pub nothing_lem : NothingIsKept
nothing_lem = record {
  fit = λ p. record { partition = refl; at_promised = refl; room = λ t h. absurd (cc (h)) };
  rise = refl;
  stands = λ p. refl;
  replicas = refl;
}

-- The collected entries are dropped.

at_uncollected : (rs : Replicas) (p : ℕ) → at p (without_collected rs) ≡ option_map uncollected (at p rs)
at_uncollected [] p = refl
at_uncollected (e ∷ es) p = go (e.0 == p) (at_uncollected es p)
  where
    go : (b : Bool) → at p (without_collected es) ≡ option_map uncollected (at p es) →
        cond b (Some (uncollected e.1)) (at p (without_collected es)) ≡ option_map uncollected (cond b (Some e.1) (at p es))
    go true rest = refl
    go false rest = rest

shown_uncollected : (x : Replica) → option_map uncollected (shown x) ≡ shown (uncollected x)
shown_uncollected x = go (is_named x)
  where
    go : (b : Bool) → option_map uncollected (cond b (Some x) None) ≡ cond b (Some (uncollected x)) None
    go true = refl
    go false = refl

full_uncollected : (rs : Replicas) → Full rs → Full (without_collected rs)
full_uncollected rs full p =
    at_uncollected rs p
    ∙ (ap (option_map uncollected) (full p) ∙ (shown_uncollected (replica_of p rs) ∙ sym (ap shown (uncollected_at rs p))))

again_fit : (p : ℕ) (s : ReplicaState) → IsFit p s → IsFit p (begun_again s)
again_fit p s fit = record { partition = fit.partition; at_promised = fit.at_promised; room = λ t h. absurd (cc (h)) }

pub starts_stay_lem : StartsStayKept
starts_stay_lem records s instance k =
    kept_as (records ++ Boot instance ∷ []) (failover_begun records)
    (λ p. subst (IsFit p) (sym (go_on_lem records s k.stands p)) (again_fit p (state_at p s) (k.fit p)))
    (starts_rise_lem records) (starts_kept_lem records instance)
    (subst Full (sym (after_join [] records (Boot instance ∷ []))) (full_uncollected (replicas_after_all [] records) (full_of records s k)))

-- The replicas of a start.

begun_states : (rs : Replicas) → map (λ e. (e.0, replica_put (first_state e.0) e.1)) (without_collected rs) ≡ states_of rs
begun_states [] = refl
begun_states (e ∷ es) = ap (λ zs. (e.0, replica_put (first_state e.0) (uncollected e.1)) ∷ zs) (begun_states es)

states_twice : (rs : Replicas) → states_of (without_collected rs) ≡ states_of rs
states_twice [] = refl
states_twice (e ∷ es) = ap (λ zs. (e.0, replica_put (first_state e.0) (uncollected e.1)) ∷ zs) (states_twice es)

pub begin_again_lem : StartsBeginAgain
begin_again_lem records s k =
    let next : KeptAs (records ++ Boot 0 ∷ []) (failover_begun records) = starts_stay_lem records s 0 k in
    begun_states (replicas_after_all [] records)
    ∙ (sym (states_twice (replicas_after_all [] records))
    ∙ ap states_of (sym (after_join [] records (Boot 0 ∷ [])) ∙ next.replicas))

-- Each replica is of its partition.

from_shown : (x r : Replica) → shown x ≡ Some r → x ≡ r
from_shown x r = go (is_named x)
  where
    go : (b : Bool) → cond b (Some x) None ≡ Some r → x ≡ r
    go true h = same_Some x r h
    go false h = absurd (cc (h))

abbrev IsOwn : ℕ × Replica → Type 0
IsOwn e = e.1.partition ≡ e.0

all_own : (low : ℕ) (rs : Replicas) → rises_from low rs ≡ true → ((p : ℕ) (r : Replica) → at p rs ≡ Some r → r.partition ≡ p) → All IsOwn rs
all_own low [] up h = All-nil IsOwn
all_own low (e ∷ es) up h =
    let parts : (nat_le low e.0 ≡ true) × (rises_from (e.0 + 1) es ≡ true) = and_parts (nat_le low e.0) (rises_from (e.0 + 1) es) up in
    All-cons IsOwn e es (h e.0 e.1 (ap (λ b. cond b (Some e.1) (at e.0 es)) (eq-eqb e.0 e.0 refl)))
    (all_own (e.0 + 1) es parts.1 (λ p r i. h p r (go p r parts.1 (e.0 == p) refl i)))
  where
    go : (p : ℕ) (r : Replica) → rises_from (e.0 + 1) es ≡ true → (b : Bool) → (e.0 == p) ≡ b → at p es ≡ Some r → cond b (Some e.1) (at p es) ≡ Some r
    go p r behind true g i =
        let below : p < e.0 + 1 = grind (arith, nat_tests, g) in
        let none : at p es ≡ None = at-below (e.0 + 1) es p below behind in
        absurd (cc (i, none))
    go p r behind false g i = i

pub states_lem : ReplicaStatesAreKept
states_lem records s k = (
  begun_states (replicas_after_all [] records) ∙ ap states_of k.replicas,
  all_own 0 (named s.states) (named_rises 0 s.states k.rise)
      (λ p r i.
      sym (ap (λ (x : Replica). x.partition) (from_shown (without_role (state_at p s).replica) r (sym (at_named 0 s.states p k.rise) ∙ i)))
      ∙ (k.fit p).partition),
)
