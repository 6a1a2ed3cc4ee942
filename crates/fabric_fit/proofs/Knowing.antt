-- What is known of units stays in range.
use Rattle.std.proofs.Common.{◌≡◌, ℕ, ◌≤◌, false, not, ◌&&◌, List, Option, Some, None, length, map, IsTrue, refl, subst, arith}
use Rattle.std.specs.Prelude.{Err, filter, Ok, Result, is_some, nat_le, unwrap_or}
use Rattle.std.proofs.lemmas.Bool.{and_parts, cond_both, leb-false}
use Rattle.std.proofs.lemmas.List.{length-map}
use Rattle.std.proofs.lemmas.List.Elements.{All-filter, All-map, All-weaker}
use Rattle.std.proofs.lemmas.List.Sums.{count_by-le-length, length-filter}
use Rattle.fabric_lemmas.specs.Maps.{at, put}
use Rattle.fabric_lemmas.proofs.Maps.{rises-put}
use Rattle.failover_units.specs.declared.refusal.UnitRefusal.{UnitRefusal}
use Rattle.failover_units.specs.declared.refusal.UnitRefusal.TheVariants.{Exists, Full}
use Rattle.failover_units.specs.declared.unit.KnownUnit.{KnownUnit}
use Rattle.failover_units.specs.Units.{Table, changed, greater, is_full_for, is_in, newest, noted, nothing, partitions_in, point_of, seen_at, unit_of}
use Rattle.fabric_terms.specs.Fields.{is_config, is_done, is_epoch, is_short}
use Rattle.fabric_terms.specs.declared.report.Report.TheVariants.{UnitList}
use Rattle.fabric_terms.specs.Ranges.{FitsReason, IsPartition}
use Rattle.failover_units.specs.Limits.{most_units}
use Rattle.frames_fit.specs.Formats.{ReportInRange}
use Rattle.frames_fit.proofs.Each.{Each, at_each, put_each}
use Rattle.ring_points.specs.declared.interval.Interval.{Interval}
use Rattle.ring_points.specs.declared.unit.Config.{Config}
use Rattle.ring_points.specs.declared.unit.Epoch.{Epoch}
use Rattle.ring_points.specs.Epochs.{is_older}
use Rattle.replica_core.specs.Replicas.{first_epoch}
use Rattle.unit_rules.specs.declared.reconfig.Kind.{Kind}
use Rattle.unit_rules.specs.declared.reconfig.Kind.TheVariants.{Create}
use Rattle.unit_rules.specs.Manager.{entered, reason_of, table_or}
use Rattle.fabric_fit.specs.Managers.{UnitInRange, UnitsInRange}
use Rattle.fabric_fit.proofs.Members.{config_parts}
use Rattle.fabric_fit.proofs.Tables.{put_all, put_more, put_same}
use Rattle.fabric_fit.proofs.Telling.{partition_told}

greater_in_range : (a b : Epoch) → IsTrue (is_epoch a) → IsTrue (is_epoch b) → IsTrue (is_epoch (greater a b))
greater_in_range a b h k = cond_both (is_older a b) b a (λ e. IsTrue (is_epoch e)) (λ f. k) (λ f. h)

seen_in_range : (epoch : Epoch) (u : KnownUnit) → IsTrue (is_epoch epoch) → UnitInRange u → UnitInRange (seen_at epoch u)
seen_in_range epoch u h k = record { config = k.config; highest = greater_in_range u.highest epoch k.highest h }

newest_in_range : (o : Option Config) (config : Config) → IsTrue (is_done o) → IsTrue (is_config config) → IsTrue (is_config (newest o config))
newest_in_range None config h k = k
newest_in_range (Some known) config h k = cond_both (is_older known.epoch config.epoch) config known (λ c. IsTrue (is_config c)) (λ f. k) (λ f. h)

noted_in_range : (config : Config) (u : KnownUnit) → IsTrue (is_config config) → UnitInRange u → UnitInRange (noted config u)
noted_in_range config u h k =
    record { config = newest_in_range u.config config k.config h; highest = greater_in_range u.highest config.epoch k.highest (config_parts config h).epoch }

-- A change.

unit_in_range : (partition : ℕ) (units : Table) → Each UnitInRange units → UnitInRange (unit_of partition units)
unit_in_range partition units h = found (at partition units) refl
  where
    found : (o : Option KnownUnit) → at partition units ≡ o → UnitInRange (unwrap_or o nothing)
    found None e = record { config = refl; highest = refl }
    found (Some u) e = at_each UnitInRange partition units u h e

abbrev pub TableInRange : Result Table UnitRefusal → Type 0
TableInRange (Err u) = FitsReason (reason_of u)
TableInRange (Ok units) = UnitsInRange units

-- where it stands, or where a place is free
put_few : (partition : ℕ) (u : KnownUnit) (units : Table) → UnitsInRange units → is_full_for partition units ≡ false →
    length (put partition u units) ≤ most_units
put_few partition u units h room = found (at partition units) refl
  where
    found : (o : Option KnownUnit) → at partition units ≡ o → length (put partition u units) ≤ most_units
    found (Some v) e = let same = put_same 0 partition u v units h.rise e in let few = h.few in omega arith
    found None e =
        let free : nat_le most_units (length units) ≡ false = subst (λ (o : Option KnownUnit). (not (is_some o) && nat_le most_units (length units)) ≡ false) e room in
        let less = leb-false most_units (length units) free in
        let more = put_more partition u units in
        omega arith

changed_in_range : (partition : ℕ) (change : KnownUnit → KnownUnit) (units : Table) → IsTrue (is_short partition) → UnitsInRange units
    → ((u : KnownUnit) → UnitInRange u → UnitInRange (change u)) → TableInRange (changed partition change units)
changed_in_range partition change units short h each =
    let now : KnownUnit = change (unit_of partition units) in
    cond_both (is_full_for partition units) (Err Full) (Ok (put partition now units)) TableInRange (λ f. tt)
    (λ f. record {
      rise = rises-put partition now units h.rise;
      few = put_few partition now units h f;
      numbers = put_all (λ e. IsTrue (is_short e.0)) partition now units short h.numbers;
      each = put_each UnitInRange partition now units (each (unit_of partition units) (unit_in_range partition units h.each)) h.each;
    })

pub entered_in_range : (kind : Kind) (partition : ℕ) (units : Table) → IsTrue (is_short partition) → UnitsInRange units → TableInRange (entered kind partition units)
entered_in_range (Create count) partition units short h =
    cond_both (is_some (unit_of partition units).config) (Err Exists) (changed partition (λ u. u) units) TableInRange (λ f. tt)
    (λ f. changed_in_range partition (λ u. u) units short h (λ u k. k))
entered_in_range kind partition units short h =
    changed_in_range partition (seen_at first_epoch) units short h (λ u k. seen_in_range first_epoch u refl k)

-- where it stands or finds a place

table_in_range : (units : Table) → UnitsInRange units → (o : Result Table UnitRefusal) → TableInRange o → UnitsInRange (table_or units o)
table_in_range units h (Ok new) k = k
table_in_range units h (Err u) k = h

pub table_seen : (partition : ℕ) (epoch : Epoch) (units : Table) → IsTrue (is_short partition) → IsTrue (is_epoch epoch) → UnitsInRange units
    → UnitsInRange (table_or units (changed partition (seen_at epoch) units))
table_seen partition epoch units short h k =
    table_in_range units k (changed partition (seen_at epoch) units) (changed_in_range partition (seen_at epoch) units short k (λ u f. seen_in_range epoch u h f))

pub table_noted : (config : Config) (units : Table) → IsTrue (is_config config) → UnitsInRange units
    → UnitsInRange (table_or units (changed config.partition (noted config) units))
table_noted config units h k =
    let short = (and_parts (is_short config.partition) (is_epoch config.epoch) (config_parts config h).unit).0 in
    table_in_range units k (changed config.partition (noted config) units)
    (changed_in_range config.partition (noted config) units short k (λ u f. noted_in_range config u h f))

-- The list of those with a known configuration.

pub listed_in_range : (range : Interval) (units : Table) → UnitsInRange units → ReportInRange (UnitList (partitions_in range units))
listed_in_range range units h =
    let known : Table = filter (λ e. is_some e.1.config) units in
    let parted : List ℕ = map (λ e. e.0) known in
    let told = All-weaker (λ (e : ℕ × KnownUnit). IsTrue (is_short e.0)) (λ e. IsPartition e.0) (λ e k. partition_told e.0 k) units h.numbers in
    let few = h.few in
    let first = count_by-le-length (λ (e : ℕ × KnownUnit). is_some e.1.config) units in
    let second = count_by-le-length (λ (p : ℕ). is_in range (point_of p)) parted in
    let kept = length-filter (λ (e : ℕ × KnownUnit). is_some e.1.config) units in
    let mapped = length-map known (λ (e : ℕ × KnownUnit). e.0) in
    let last = length-filter (λ (p : ℕ). is_in range (point_of p)) parted in (
      All-filter (λ p. is_in range (point_of p)) IsPartition parted
          (All-map IsPartition (λ (e : ℕ × KnownUnit). e.0) known (All-filter (λ (e : ℕ × KnownUnit). is_some e.1.config) (λ e. IsPartition e.0) units told)),
      omega arith,
    )
