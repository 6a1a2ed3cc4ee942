-- What a manager knows of other partitions stays.
use Rattle.std.proofs.Common.{◌≡◌, ℕ, Bool, true, false, cond, ◌==◌, List, None, Some, Ok, Err, refl, sym, ap, ◌∙◌}
use Rattle.std.proofs.lemmas.Bool.{eqb-true}
use Rattle.std.specs.Prelude.{is_some, if◌then◌else◌}
use Rattle.fabric_lemmas.specs.Maps.{at, put, without, rises}
use Rattle.fabric_lemmas.proofs.Maps.{at-put, at-without, rises-put, rises-without}
use Rattle.ring_points.specs.declared.unit.Epoch.{Epoch}
use Rattle.ring_points.specs.declared.who.Who.{Who}
use Rattle.failover_units.specs.declared.refusal.UnitRefusal.TheVariants.{Exists, Full}
use Rattle.failover_units.specs.declared.unit.KnownUnit.{KnownUnit}
use Rattle.failover_units.specs.Units.{Table, unit_of, seen_at, noted, is_full_for, changed}
use Rattle.epoch_machine.specs.World.{World}
use Rattle.replica_core.specs.Replicas.{first_epoch}
use Rattle.unit_rules.specs.declared.reconfig.Kind.{Kind}
use Rattle.unit_rules.specs.declared.reconfig.Kind.TheVariants.{Create, Swap, Heal, Lose}
use Rattle.unit_rules.specs.declared.reconfig.Task.{Task}
use Rattle.unit_rules.specs.Deeds.{Deed}
use Rattle.unit_rules.specs.Manager.{Managed, entered, table_or, stands}
use Rattle.unit_rules.specs.Reconfigs.{Step, Stay, Finished, Superseded, Refused}
use Rattle.epoch_refinement.specs.Reconfigs.{ShowsStep}

pub apart_test : (p q : ℕ) → (q ≡ p → ⊥) → (q == p) ≡ false
apart_test p q d = go (q == p) refl
  where
    go : (b : Bool) → (q == p) ≡ b → b ≡ false
    go true e = absurd (d (eqb-true q p e))
    go false e = refl

pub put_other : {X : Type 0} (q : ℕ) (x : X) (es : List (ℕ × X)) (p : ℕ) → (q ≡ p → ⊥) → at p (put q x es) ≡ at p es
put_other q x es p d = at-put q x es p ∙ ap (λ b. cond b (Some x) (at p es)) (apart_test p q d)

without_other : {X : Type 0} (q : ℕ) (es : List (ℕ × X)) (p : ℕ) → (q ≡ p → ⊥) → at p (without q es) ≡ at p es
without_other q es p d = at-without q es p ∙ ap (λ b. cond b None (at p es)) (apart_test p q d)

pub changed_other : (q : ℕ) (f : KnownUnit → KnownUnit) (units : Table) (p : ℕ) → (q ≡ p → ⊥) → at p (table_or units (changed q f units)) ≡ at p units
changed_other q f units p d = go (is_full_for q units)
  where
    go : (b : Bool) → at p (table_or units (if b then Err Full else Ok (put q (f (unit_of q units)) units))) ≡ at p units
    go true = refl
    go false = put_other q (f (unit_of q units)) units p d

-- after a step of the reconfiguration in partition q
pub record StepBeside (q : ℕ) (s t : Managed) : Type 0 where
  pub reconfigs : (p : ℕ) → (q ≡ p → ⊥) → at p t.reconfigs ≡ at p s.reconfigs
  pub units : (p : ℕ) → (q ≡ p → ⊥) → at p t.units ≡ at p s.units
  pub rises_on : rises s.reconfigs ≡ true → rises t.reconfigs ≡ true

pub stands_beside : (w : World) (k : ℕ) (x : Who) (h : Epoch) (n q : ℕ) (t : Task) → t.partition ≡ q → (s : Managed) (step : Step) (ds : List Deed) →
    ShowsStep w k q x h n step → StepBeside q s (stands t s step ds).state
stands_beside w k x h n q t same s (Stay r) ds shown = record {
  reconfigs = λ p d. put_other t.partition r s.reconfigs p (λ e. d (sym same ∙ e));
  units = λ p d. refl;
  rises_on = λ h. rises-put t.partition r s.reconfigs h;
}
stands_beside w k x h n q t same s (Finished config) ds shown = record {
  reconfigs = λ p d. without_other t.partition s.reconfigs p (λ e. d (sym same ∙ e));
  units = λ p d. changed_other config.partition (noted config) s.units p (λ e. d (sym shown.0 ∙ e));
  rises_on = λ h. rises-without t.partition s.reconfigs h;
}
stands_beside w k x h n q t same s (Superseded epoch) ds shown = record {
  reconfigs = λ p d. without_other t.partition s.reconfigs p (λ e. d (sym same ∙ e));
  units = λ p d. changed_other t.partition (seen_at epoch) s.units p (λ e. d (sym same ∙ e));
  rises_on = λ h. rises-without t.partition s.reconfigs h;
}
stands_beside w k x h n q t same s (Refused u) ds shown = record {
  reconfigs = λ p d. without_other t.partition s.reconfigs p (λ e. d (sym same ∙ e));
  units = λ p d. refl;
  rises_on = λ h. rises-without t.partition s.reconfigs h;
}

-- a partition that enters the units leaves the others
pub entered_other : (kind : Kind) (q : ℕ) (old units : Table) → entered kind q old ≡ Ok units → (p : ℕ) → (q ≡ p → ⊥) → at p units ≡ at p old
entered_other kind q old units e p d = by kind e
  where
    changes : (f : KnownUnit → KnownUnit) → changed q f old ≡ Ok units → at p units ≡ at p old
    changes f e = ap (λ r. at p (table_or old r)) (sym e) ∙ changed_other q f old p d

    by : (kind : Kind) → entered kind q old ≡ Ok units → at p units ≡ at p old
    by (Create count) e = go (is_some (unit_of q old).config) e
      where
        go : (b : Bool) → (if b then Err Exists else changed q (λ unit. unit) old) ≡ Ok units → at p units ≡ at p old
        go true e = absurd (cc (e))
        go false e = changes (λ unit. unit) e
    by (Swap node) e = changes (seen_at first_epoch) e
    by (Heal count) e = changes (seen_at first_epoch) e
    by (Lose node) e = changes (seen_at first_epoch) e
