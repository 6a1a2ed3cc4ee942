-- Where a command begins, and where it would be past the end.
use Rattle.std.proofs.Common.{◌≡◌, ℕ, ◌<◌, Bool, true, false, cond, List, ◌++◌, length, nat_lt, Option, Some, None, Result, Ok, Err, refl, sym, subst, ap, ◌∙◌, arith}
use Rattle.std.specs.Prelude.{is_some}
use Rattle.std.proofs.lemmas.Bool.Decides.{nat_tests}
use Rattle.std.proofs.lemmas.Option.{same_Some}
use Rattle.ring_points.specs.Limits.{most_partitions}
use Rattle.ring_points.specs.declared.unit.Config.{Config}
use Rattle.ring_points.specs.declared.unit.Epoch.{Epoch}
use Rattle.ring_points.specs.declared.who.Who.{Who}
use Rattle.fabric_terms.specs.declared.message.Body.{Body}
use Rattle.fabric_terms.specs.declared.report.Reason.{Reason}
use Rattle.fabric_lemmas.specs.Maps.{at, put}
use Rattle.failover_units.specs.declared.unit.KnownUnit.{KnownUnit}
use Rattle.failover_units.specs.declared.refusal.UnitRefusal.{UnitRefusal}
use Rattle.failover_units.specs.declared.refusal.UnitRefusal.TheVariants as refusal
use Rattle.failover_units.specs.Units.{Table, changed, seen_at, is_full_for, unit_of, nothing}
use Rattle.replica_core.specs.Replicas.{first_epoch}
use Rattle.unit_rules.specs.declared.reconfig.Kind.{Kind}
use Rattle.unit_rules.specs.declared.reconfig.Kind.TheVariants.{Create, Swap, Heal, Lose}
use Rattle.unit_rules.specs.declared.reconfig.Task.{Task}
use Rattle.unit_rules.specs.Deeds.{frames_of, refuse}
use Rattle.unit_rules.specs.Epochs.{is_past_end}
use Rattle.unit_rules.specs.Manager.{Managed, begins_in, entered, epoch_of, reason_of, task, task_commanded, verb_of}
use Rattle.unit_rules.specs.Polls.{arbiters_to}
use Rattle.unit_rules.specs.Questions.{asks}
use Rattle.unit_rules.specs.Reconfigs.{Reconfig, task_of}
use Rattle.unit_rules.specs.Transitions.{begun}
use Rattle.unit_desk.proofs.Puts.{one_more}
use Rattle.unit_manager.specs.Managers.{Begins, HasOwn, IsManaged, begins_one, reason_at_end, refusal_in}
use Rattle.unit_manager.proofs.Asking.{asking}
use Rattle.unit_manager.proofs.Keeping.{begins_managed}

-- the first epoch is far from its end
first_is_early : (kind : Kind) → is_past_end (epoch_of kind nothing.highest) ≡ false
first_is_early (Create count) = refl
first_is_early (Swap node) = refl
first_is_early (Heal count) = refl
first_is_early (Lose node) = refl

-- a partition whose epoch is at its end stands already
stands_at_end : (kind : Kind) (partition : ℕ) (units : Table) → is_past_end (epoch_of kind (unit_of partition units).highest) ≡ true
    → is_full_for partition units ≡ false
stands_at_end kind partition units end = by (at partition units) refl
  where
    by : (o : Option KnownUnit) → at partition units ≡ o → is_full_for partition units ≡ false
    by (Some u) is = rw is refl
    by None is =
        let late : is_past_end (epoch_of kind nothing.highest) ≡ true = rw is at end in
        let early : is_past_end (epoch_of kind nothing.highest) ≡ false = first_is_early kind in
        absurd (cc)

pub refused_at_end : (arbitrators partition : ℕ) (kind : Kind) (s : Managed) → is_past_end (epoch_of kind (unit_of partition s.units).highest) ≡ true
    → begins_in (task_commanded arbitrators partition kind s.units) s (entered kind partition s.units)
    ≡ refuse (verb_of kind) (reason_at_end kind (unit_of partition s.units).config) s
refused_at_end arbitrators partition (Create count) s end = by (unit_of partition s.units).config refl
  where
    by : (known : Option Config) → (unit_of partition s.units).config ≡ known
        → begins_in (task_commanded arbitrators partition (Create count) s.units) s (entered (Create count) partition s.units)
        ≡ refuse (verb_of (Create count)) (reason_at_end (Create count) (unit_of partition s.units).config) s
    by (Some config) is = rw is refl
    by None is = rw (is, stands_at_end (Create count) partition s.units end, end) refl
refused_at_end arbitrators partition (Swap node) s end = rw (stands_at_end (Swap node) partition s.units end, end) refl
refused_at_end arbitrators partition (Heal count) s end = rw (stands_at_end (Heal count) partition s.units end, end) refl
refused_at_end arbitrators partition (Lose node) s end = rw (stands_at_end (Lose node) partition s.units end, end) refl

pub refused_in : (t : Task) (s : Managed) (e : Result Table UnitRefusal) (why : Reason) → refusal_in e ≡ Some why
    → begins_in t s e ≡ refuse (verb_of t.kind) why s
refused_in t s (Err r) why is = ap (λ (w : Reason). refuse (verb_of t.kind) w s) (same_Some (reason_of r) why is)
refused_in t s (Ok units) why is = absurd (cc)

-- where nothing refuses it, one more reconfiguration stands
begins_more : (t : Task) (s : Managed) (e : Result Table UnitRefusal) → refusal_in e ≡ None → is_past_end t.epoch ≡ false
    → at t.partition s.reconfigs ≡ None → begins_one s (begins_in t s e) ≡ true
begins_more t s (Ok units) free early none =
    let more : length s.reconfigs < length (put t.partition (begun t) s.reconfigs) = one_more t.partition (begun t) s.reconfigs none in
    let longer : nat_lt (length s.reconfigs) (length (put t.partition (begun t) s.reconfigs)) ≡ true = grind (arith, nat_tests, more) in
    rw early longer
begins_more t s (Err r) free early none = absurd (cc)

pub begins_if_free : (arbitrators partition : ℕ) (kind : Kind) (s : Managed) (epoch : Epoch)
    → epoch ≡ epoch_of kind (unit_of partition s.units).highest → is_past_end epoch ≡ false
    → refusal_in (entered kind partition s.units) ≡ None → at partition s.reconfigs ≡ None
    → begins_one s (begins_in (task_commanded arbitrators partition kind s.units) s (entered kind partition s.units)) ≡ true
begins_if_free arbitrators partition kind s epoch is inside free none =
    begins_more (task_commanded arbitrators partition kind s.units) s (entered kind partition s.units) free
    (sym (ap is_past_end is) ∙ inside) none

-- what is entered is changed, or stays as it is
pub begun_whole : (kind : Kind) (k : ℕ) (r : Reconfig) (s : Managed) (units : Table) → IsManaged s → entered kind k s.units ≡ Ok units
    → (task_of r).partition ≡ k → HasOwn r → length s.reconfigs < most_partitions → IsManaged (record { units = units; reconfigs = put k r s.reconfigs })
begun_whole (Create count) k r s units whole is own configs room = by (is_some (unit_of k s.units).config) is
  where
    by : (b : Bool) → ◌≡◌ {A = Result Table UnitRefusal} (cond b (Err refusal.Exists) (changed k (λ unit. unit) s.units)) (Ok units)
        → IsManaged (record { units = units; reconfigs = put k r s.reconfigs })
    by true e = absurd (cc)
    by false e = begins_managed k (λ unit. unit) r s units whole e own configs room
begun_whole (Swap node) k r s units whole is own configs room = begins_managed k (seen_at first_epoch) r s units whole is own configs room
begun_whole (Heal count) k r s units whole is own configs room = begins_managed k (seen_at first_epoch) r s units whole is own configs room
begun_whole (Lose node) k r s units whole is own configs room = begins_managed k (seen_at first_epoch) r s units whole is own configs room

-- what has entered begins, which only sends
module _ (arbitrators partition : ℕ) (kind : Kind) (epoch : Epoch) (s : Managed) (units : Table) (r : Reconfig) (rs : List (ℕ × Reconfig)) (is : entered kind partition s.units ≡ Ok units) (new : r ≡ begun (task arbitrators partition epoch kind)) (put_is : rs ≡ put partition r s.reconfigs) where
  pub begins_so : (before after : List (Who × Body)) → epoch ≡ epoch_of kind (unit_of partition s.units).highest → is_past_end epoch ≡ false
      → after ≡ before ++ frames_of (asks (begun (task arbitrators partition epoch kind)) (arbiters_to arbitrators))
      → Begins kind (begins_in (task_commanded arbitrators partition kind s.units) s (entered kind partition s.units)) s
      (record { units = units; reconfigs = rs }) before after None
  begins_so before after e inside sent =
      let early : is_past_end (epoch_of kind (unit_of partition s.units).highest) ≡ false = sym (ap is_past_end e) ∙ inside in
      let same : rs ≡ put partition (begun (task arbitrators partition (epoch_of kind (unit_of partition s.units).highest) kind)) s.reconfigs =
      put_is ∙ ap (λ (x : Reconfig). put partition x s.reconfigs) new
      ∙ ap (λ (x : Epoch). put partition (begun (task arbitrators partition x kind)) s.reconfigs) e in
      let out : after ≡ before ++ frames_of (asks (begun (task arbitrators partition (epoch_of kind (unit_of partition s.units).highest) kind)) (arbiters_to arbitrators)) =
      sent ∙ ap (λ (x : Epoch). before ++ frames_of (asks (begun (task arbitrators partition x kind)) (arbiters_to arbitrators))) e in
      rw (is, early) (
        ap (λ (xs : List (ℕ × Reconfig)). record { units = units; reconfigs = xs }) same,
        (out, asking (begun (task arbitrators partition (epoch_of kind (unit_of partition s.units).highest) kind)) (arbiters_to arbitrators)),
      )

  pub begins_whole : IsManaged s → length s.reconfigs < most_partitions → IsManaged (record { units = units; reconfigs = rs })
  begins_whole whole room =
      subst (λ (xs : List (ℕ × Reconfig)). IsManaged (record { units = units; reconfigs = xs })) (sym put_is)
      (begun_whole kind partition r s units whole is (ap (λ (x : Reconfig). (task_of x).partition) new) (subst HasOwn (sym new) tt) room)
