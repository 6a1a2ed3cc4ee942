-- One arbitrator changes: the seats stand for the arbitrators after it.
use Rattle.std.proofs.Common.{◌≡◌, ℕ, zero, suc, ◌+◌, ◌<◌, ◌⊎◌, inl, inr, cond, List, [], ◌∷◌, Option, Some, None, refl, sym, ap, subst, ◌∙◌, arith, length}
use Rattle.std.specs.Prelude.{slice_get, slice_set}
use Rattle.std.proofs.lemmas.List.{length-set}
use Rattle.arbiter_core.specs.Arbiters.{restored}
use Rattle.fabric_terms.specs.declared.config.FabricConfig.{FabricConfig}
use Rattle.ring_points.specs.Whos.{arbiter_actor}
use Rattle.fabric_lemmas.specs.Maps.{at, put, without}
use Rattle.unit_rules.specs.Fabric.{fabric}
use Rattle.world_rules.specs.Worlds.{World as RuledWorld, kept_of}
use Rattle.fabric_lemmas.proofs.Maps.{at-put, at-without}
use Rattle.ring_world.specs.ConfiguredArbiters.{IsSeat}
use Rattle.ring_world.specs.Seen.{Seen}
use Rattle.ring_world.specs.Stands.{ArbitersStand}
use Rattle.ring_world.specs.declared.configured_arbiter.ConfiguredArbiter.{ConfiguredArbiter}
use Rattle.ring_world.proofs.Maps.{unequal, equal}

-- what stands in a list after a change is new, or was there
pub get_set : {X : Type 0} (xs : List X) (i k : ℕ) (y x : X) → slice_get (slice_set xs i y) k ≡ Some x → ((k ≡ i) × (x ≡ y)) ⊎ ((k ≡ i → ⊥) × (slice_get xs k ≡ Some x))
get_set [] i k y x e = inr ((λ s. absurd (cc)), e)
get_set (q ∷ xs) zero zero y x e = inl (refl, cc)
get_set (q ∷ xs) zero (suc k) y x e = inr ((λ s. absurd (omega arith)), e)
get_set (q ∷ xs) (suc i) zero y x e = inr ((λ s. absurd (omega arith)), e)
get_set (q ∷ xs) (suc i) (suc k) y x e =
    elim (get_set xs i k y x e) [ inl h ↦ inl (ap suc h.0, h.1) | inr h ↦ inr ((λ s. h.0 (omega arith)), h.1) ]

pub arbiters_set : (a b : Seen) (w v : RuledWorld fabric) (place : ℕ) (q : ConfiguredArbiter) → ArbitersStand a w → place < length a.seats
    → b.seats ≡ slice_set a.seats place q → b.config ≡ a.config → b.events ≡ a.events + 1 → IsSeat v (a.events + 1) (place + 1) q
    → ((k : ℕ) → (k ≡ place + 1 → ⊥) → at k v.arbiters ≡ at k w.arbiters)
    → ((k : ℕ) → (k ≡ place + 1 → ⊥) → kept_of v (arbiter_actor k) ≡ kept_of w (arbiter_actor k))
    → ArbitersStand b v
arbiters_set a b w v place q s within seats config events new tables kept =
    let size : length b.seats ≡ length a.seats = ap length seats ∙ length-set a.seats place q in
    record {
      count = size ∙ (s.count ∙ ap (λ (c : FabricConfig). length c.arbiters) (sym config));
      seats = λ k x g. by_place k x (get_set a.seats place k q x (ap (λ ss. slice_get ss k) (sym seats) ∙ g));
      others = λ arbiter lt. let far : length a.seats < arbiter = omega arith in tables arbiter (λ e. absurd (omega arith)) ∙ s.others arbiter far;
      from_one = tables 0 (λ e. absurd (omega arith)) ∙ s.from_one;
    }
  where
    by_place : (k : ℕ) (x : ConfiguredArbiter) → ((k ≡ place) × (x ≡ q)) ⊎ ((k ≡ place → ⊥) × (slice_get a.seats k ≡ Some x)) → IsSeat v b.events (k + 1) x
    by_place k x (inl h) =
        subst (λ (n : ℕ). IsSeat v n (k + 1) x) (sym events)
        (subst (λ (n : ℕ). IsSeat v (a.events + 1) (n + 1) x) (sym h.0) (subst (λ (y : ConfiguredArbiter). IsSeat v (a.events + 1) (place + 1) y) (sym h.1) new))
    by_place k x (inr h) =
        let old = s.seats k x h.1 in
        let other : k + 1 ≡ place + 1 → ⊥ = λ e. h.0 (omega arith) in
        record {
          running = old.running ∙ sym (tables (k + 1) other);
          kept = old.kept ∙ ap (λ rs. restored (k + 1) rs) (sym (kept (k + 1) other));
          few = omega (arith, old.few);
        }

pub at_other_put : {X : Type 0} (k q : ℕ) (x : X) (es : List (ℕ × X)) → (q ≡ k → ⊥) → at q (put k x es) ≡ at q es
at_other_put k q x es h = at-put k x es q ∙ ap (λ b. cond b (Some x) (at q es)) (unequal k q (λ e. h (sym e)))

pub at_same_put : {X : Type 0} (k : ℕ) (x : X) (es : List (ℕ × X)) → at k (put k x es) ≡ Some x
at_same_put k x es = at-put k x es k ∙ ap (λ b. cond b (Some x) (at k es)) (equal k)

pub at_other_without : {X : Type 0} (k q : ℕ) (es : List (ℕ × X)) → (q ≡ k → ⊥) → at q (without k es) ≡ at q es
at_other_without k q es h = at-without k es q ∙ ap (λ b. cond b None (at q es)) (unequal k q (λ e. h (sym e)))

pub at_same_without : {X : Type 0} (k : ℕ) (es : List (ℕ × X)) → at k (without k es) ≡ None
at_same_without {X = X} k es = at-without k es k ∙ ap (λ b. cond b (none X) (at k es)) (equal k)
  where
    none : (Y : Type 0) → Option Y
    none Y = None
