-- Changes of what is managed that keep it whole.
use Rattle.std.proofs.Common.{◌≡◌, ℕ, ◌≤◌, ◌<◌, Bool, true, false, cond, not, List, [], length, Some, None, Result, Ok, Err, refl, sym, subst, ap, ◌∙◌, arith}
use Rattle.std.specs.Prelude.{◌==◌, is_some}
use Rattle.std.proofs.lemmas.Bool.Decides.{nat_tests}
use Rattle.std.proofs.lemmas.Option.{same_Some}
use Rattle.fabric_lemmas.specs.Maps.{at, put, without}
use Rattle.fabric_lemmas.proofs.Maps.{at-put, at-without, rises-put, rises-without}
use Rattle.ring_points.specs.Limits.{most_partitions}
use Rattle.failover_units.specs.declared.unit.KnownUnit.{KnownUnit}
use Rattle.failover_units.specs.declared.refusal.UnitRefusal.{UnitRefusal}
use Rattle.failover_units.specs.declared.refusal.UnitRefusal.TheVariants.{Full}
use Rattle.failover_units.specs.Units.{Table, changed, is_full_for, unit_of}
use Rattle.unit_rules.specs.Manager.{Managed, table_or}
use Rattle.unit_rules.specs.Reconfigs.{Reconfig, task_of}
use Rattle.unit_desk.proofs.Puts.{fewer_kept, length-put}
use Rattle.unit_manager.specs.Managers.{HasOwn, IsManaged}

module _ {X : Type 0} (P : ℕ → X → Type 0) (k : ℕ) where
  -- what holds of each entry, and of what is put, holds of each entry after it
  each_put : (x : X) (es : List (ℕ × X)) → P k x → ((q : ℕ) (y : X) → at q es ≡ Some y → P q y)
      → (q : ℕ) (y : X) → at q (put k x es) ≡ Some y → P q y
  each_put x es new old q y there = by (k == q) refl (sym (at-put k x es q) ∙ there)
    where
      by : (b : Bool) → (k == q) ≡ b → cond b (Some x) (at q es) ≡ Some y → P q y
      by true f g =
          let same : k ≡ q = grind (arith, nat_tests, f) in
          subst (λ (n : ℕ). P n y) same (subst (λ (z : X). P k z) (same_Some x y g) new)
      by false f g = old q y g

  each_without : (es : List (ℕ × X)) → ((q : ℕ) (y : X) → at q es ≡ Some y → P q y)
      → (q : ℕ) (y : X) → at q (without k es) ≡ Some y → P q y
  each_without es old q y there = by (k == q) (sym (at-without k es q) ∙ there)
    where
      by : (b : Bool) → cond b None (at q es) ≡ Some y → P q y
      by true g = absurd (cc)
      by false g = old q y g

-- a partition stands, whatever is put

still_there : (k q : ℕ) (u : KnownUnit) (units : Table) → is_some (at q units) ≡ true → is_some (at q (put k u units)) ≡ true
still_there k q u units there = ap is_some (at-put k u units q) ∙ by (k == q)
  where
    by : (b : Bool) → is_some (cond b (Some u) (at q units)) ≡ true
    by true = refl
    by false = there

pub put_there : (k : ℕ) (u : KnownUnit) (units : Table) → is_some (at k (put k u units)) ≡ true
put_there k u units = let same : (k == k) ≡ true = grind (arith, nat_tests) in ap is_some (at-put k u units k) ∙ rw same refl

pub known_after : (q k : ℕ) (f : KnownUnit → KnownUnit) (units : Table) → is_some (at q units) ≡ true
    → is_some (at q (table_or units (changed k f units))) ≡ true
known_after q k f units there = by (is_full_for k units)
  where
    by : (b : Bool) → is_some (at q (table_or units (cond b (Err Full) (Ok (put k (f (unit_of k units)) units))))) ≡ true
    by true = there
    by false = still_there k q (f (unit_of k units)) units there

pub known_changed : (q k : ℕ) (f : KnownUnit → KnownUnit) (units new : Table) → changed k f units ≡ Ok new → is_some (at q units) ≡ true → is_some (at q new) ≡ true
known_changed q k f units new is there =
    subst (λ (t : Result Table UnitRefusal). is_some (at q (table_or units t)) ≡ true) is (known_after q k f units there)

pub changed_there : (k : ℕ) (f : KnownUnit → KnownUnit) (units new : Table) → changed k f units ≡ Ok new → is_some (at k new) ≡ true
changed_there k f units new is = by (is_full_for k units) is
  where
    by : (b : Bool) → ◌≡◌ {A = Result Table UnitRefusal} (cond b (Err Full) (Ok (put k (f (unit_of k units)) units))) (Ok new) → is_some (at k new) ≡ true
    by true e = absurd (cc)
    by false e =
        let same : put k (f (unit_of k units)) units ≡ new = ap (λ (t : Result Table UnitRefusal). table_or units t) e in
        subst (λ (t : Table). is_some (at k t) ≡ true) same (put_there k (f (unit_of k units)) units)

without_fewer : {X : Type 0} (k : ℕ) (es : List (ℕ × X)) → length (without k es) ≤ length es
without_fewer {X = X} k es = fewer_kept (λ (e : ℕ × X). not (e.0 == k)) es

-- what is managed stays whole

pub nothing_managed : IsManaged (record { units = []; reconfigs = [] })
nothing_managed = record { rise = refl; own = λ k r there. absurd (cc); configs = λ k r there. absurd (cc); known = λ k r there. absurd (cc); few = omega arith }

pub goes_on_managed : (k : ℕ) (r next : Reconfig) (s : Managed) → IsManaged s → at k s.reconfigs ≡ Some r → task_of next ≡ task_of r → HasOwn next → length (put k next s.reconfigs) ≤ most_partitions
    → IsManaged (record s { reconfigs = put k next s.reconfigs })
goes_on_managed k r next s whole there task own few = record {
  rise = rises-put k next s.reconfigs whole.rise;
  own = each_put (λ q x. (task_of x).partition ≡ q) k next s.reconfigs (ap (λ t. t.partition) task ∙ whole.own k r there) whole.own;
  configs = each_put (λ q x. HasOwn x) k next s.reconfigs own whole.configs;
  known = each_put (λ q x. is_some (at q s.units) ≡ true) k next s.reconfigs (whole.known k r there) whole.known;
  few = few;
}

pub over_managed : (k p : ℕ) (f : KnownUnit → KnownUnit) (s : Managed) → IsManaged s
    → IsManaged (record { units = table_or s.units (changed p f s.units); reconfigs = without k s.reconfigs })
over_managed k p f s whole = record {
  rise = rises-without k s.reconfigs whole.rise;
  own = each_without (λ q x. (task_of x).partition ≡ q) k s.reconfigs whole.own;
  configs = each_without (λ q x. HasOwn x) k s.reconfigs whole.configs;
  known = each_without (λ q x. is_some (at q (table_or s.units (changed p f s.units))) ≡ true) k s.reconfigs
      (λ q x there. known_after q p f s.units (whole.known q x there));
  few = let fewer = without_fewer k s.reconfigs in omega (arith, fewer, whole.few);
}

pub refused_managed : (k : ℕ) (s : Managed) → IsManaged s → IsManaged (record s { reconfigs = without k s.reconfigs })
refused_managed k s whole = record {
  rise = rises-without k s.reconfigs whole.rise;
  own = each_without (λ q x. (task_of x).partition ≡ q) k s.reconfigs whole.own;
  configs = each_without (λ q x. HasOwn x) k s.reconfigs whole.configs;
  known = each_without (λ q x. is_some (at q s.units) ≡ true) k s.reconfigs whole.known;
  few = let fewer = without_fewer k s.reconfigs in omega (arith, fewer, whole.few);
}

pub begins_managed : (k : ℕ) (f : KnownUnit → KnownUnit) (r : Reconfig) (s : Managed) (units : Table) → IsManaged s → changed k f s.units ≡ Ok units
    → (task_of r).partition ≡ k → HasOwn r → length s.reconfigs < most_partitions → IsManaged (record { units = units; reconfigs = put k r s.reconfigs })
begins_managed k f r s units whole is own configs room = record {
  rise = rises-put k r s.reconfigs whole.rise;
  own = each_put (λ q x. (task_of x).partition ≡ q) k r s.reconfigs own whole.own;
  configs = each_put (λ q x. HasOwn x) k r s.reconfigs configs whole.configs;
  known = each_put (λ q x. is_some (at q units) ≡ true) k r s.reconfigs (changed_there k f s.units units is)
      (λ q x there. known_changed q k f s.units units is (whole.known q x there));
  few = let more = length-put k r s.reconfigs in omega (arith, more, room);
}
