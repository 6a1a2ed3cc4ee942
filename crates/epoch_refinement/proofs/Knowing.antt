-- What a manager knows of a partition, after a change.
use Rattle.std.proofs.Common.{◌≡◌, ℕ, ◌<◌, ◌≤◌, Bool, true, false, cond, nat_le, List, length, None, Some, Ok, Err, refl, ap, ◌∙◌, arith}
use Rattle.std.proofs.lemmas.Bool.{and_left, eq-eqb}
use Rattle.std.specs.Prelude.{not, is_some, unwrap_or}
use Rattle.fabric_lemmas.specs.Maps.{at, put, without}
use Rattle.fabric_lemmas.proofs.Maps.{at-put, at-without}
use Rattle.ring_points.specs.declared.unit.Epoch.{Epoch}
use Rattle.ring_points.specs.Epochs.{is_older}
use Rattle.failover_units.specs.Limits.{most_units}
use Rattle.failover_units.specs.declared.refusal.UnitRefusal.TheVariants.{Full}
use Rattle.failover_units.specs.declared.unit.KnownUnit.{KnownUnit}
use Rattle.failover_units.specs.Units.{Table, unit_of, greater, is_full_for, changed}
use Rattle.replica_core.specs.Replicas.{first_epoch}
use Rattle.epoch_machine.specs.Epochs.{number_of}
use Rattle.unit_rules.specs.Manager.{table_or}
use Rattle.epoch_refinement.proofs.Numbers.{number_older_below, number_older_not}

-- what is put at a number is there
pub at_put : {X : Type 0} (p : ℕ) (x : X) (es : List (ℕ × X)) → at p (put p x es) ≡ Some x
at_put p x es = at-put p x es p ∙ ap (λ b. cond b (Some x) (at p es)) (eq-eqb p p refl)

pub at_out : {X : Type 0} (p : ℕ) (es : List (ℕ × X)) → at p (without p es) ≡ None
at_out p es = at-without p es p ∙ ap (λ b. cond b None (at p es)) (eq-eqb p p refl)

-- the greater of two epochs is neither below

pub greater_small : (a b : Epoch) → a.configuration < 4294967296 → b.configuration < 4294967296 → (greater a b).configuration < 4294967296
greater_small a b x y = go (is_older a b)
  where
    go : (t : Bool) → (cond t b a).configuration < 4294967296
    go true = y
    go false = x

pub greater_above : (a b : Epoch) → a.configuration < 4294967296 → b.configuration < 4294967296 → number_of b ≤ number_of (greater a b)
greater_above a b x y = go (is_older a b) refl
  where
    go : (t : Bool) → is_older a b ≡ t → number_of b ≤ number_of (cond t b a)
    go true h = omega arith
    go false h = number_older_not a b (record { small = x; is = refl }) (record { small = y; is = refl }) h

pub greater_first : (a : Epoch) → a.configuration < 4294967296 → greater a first_epoch ≡ a
greater_first a x = go (is_older a first_epoch) refl
  where
    go : (t : Bool) → is_older a first_epoch ≡ t → cond t first_epoch a ≡ a
    go true h = absurd (let lt = number_older_below a first_epoch (record { small = x; is = refl }) (record { small = omega arith; is = refl }) h in
        omega arith)
    go false h = refl

-- a known partition that changes
pub known_changed : (p : ℕ) (f : KnownUnit → KnownUnit) (units : Table) → is_some (at p units) ≡ true →
    unit_of p (table_or units (changed p f units)) ≡ f (unit_of p units)
known_changed p f units known =
    (λ i. unit_of p (table_or units (cond (full i) (Err Full) (Ok (put p (f (unit_of p units)) units))))) ∙
    ap (λ o. unwrap_or o (record { config = None; highest = record { data_loss = 0; configuration = 0 } })) (at_put p (f (unit_of p units)) units)
  where
    full : is_full_for p units ≡ false
    full = and_left (not (is_some (at p units))) (nat_le most_units (length units)) (ap not known)
