-- The known units: a map from partitions.
use Rattle.std.specs.Prelude.{◌≡◌, ◌≢◌, ℕ, ◌*◌, ◌^◌, ◌&&◌, ◌==◌, Bool, false, not, List, length, map, filter, count_by, Option, Some, None, is_some, unwrap_or, Result, Ok, Err, nat_le, if◌then◌else◌}
use Rattle.std.specs.List.{list_any}
use Rattle.ring_points.specs.declared.interval.Interval.{Interval}
use Rattle.ring_points.specs.declared.unit.Config.{Config}
use Rattle.ring_points.specs.declared.unit.Epoch.{Epoch}
use Rattle.ring_points.specs.Epochs.{is_older}
use Rattle.fabric_lemmas.specs.Maps.{at, put}
use Rattle.failover_units.specs.Limits.{most_units}
use Rattle.failover_units.specs.declared.unit.KnownUnit.{KnownUnit}
use Rattle.failover_units.specs.declared.refusal.UnitRefusal.{UnitRefusal}
use Rattle.failover_units.specs.declared.refusal.UnitRefusal.TheVariants.{Exists, Full, OutOfMemory}

abbrev pub Table : Type 0
Table = List (ℕ × KnownUnit)

-- nothing is known of a partition
abbrev pub nothing : KnownUnit
nothing = record { config = None; highest = record { data_loss = 0; configuration = 0 } }

-- what is known of a partition
abbrev pub unit_of : ℕ → Table → KnownUnit
unit_of partition units = unwrap_or (at partition units) nothing

abbrev pub greater : Epoch → Epoch → Epoch
greater a b = if is_older a b then b else a

-- an epoch is seen
abbrev pub seen_at : Epoch → KnownUnit → KnownUnit
seen_at epoch unit = record { config = unit.config; highest = greater unit.highest epoch }

-- of two configurations the one of greater epoch, the known one at a tie
abbrev pub newest : Option Config → Config → Config
newest None config = config
newest (Some known) config = if is_older known.epoch config.epoch then config else known

-- a configuration is noted
abbrev pub noted : Config → KnownUnit → KnownUnit
noted config unit = record { config = Some (newest unit.config config); highest = greater unit.highest config.epoch }

-- a new partition finds no place
abbrev pub is_full_for : ℕ → Table → Bool
is_full_for partition units = not (is_some (at partition units)) && nat_le most_units (length units)

-- a partition changes so, where it stands or finds a place
abbrev pub changed : ℕ → (KnownUnit → KnownUnit) → Table → Result Table UnitRefusal
changed partition change units =
    if is_full_for partition units then Err Full else Ok (put partition (change (unit_of partition units)) units)

abbrev pub created : ℕ → Table → Result Table UnitRefusal
created partition units =
    if is_some (unit_of partition units).config then Err Exists else changed partition (λ unit. unit) units

-- the answer is the one that is defined, but for want of memory; a refusal changes nothing
abbrev pub Answers : Result Table UnitRefusal → Table → Table → Result (Unit {0}) UnitRefusal → Type 0
Answers defined old new (Ok done) = defined ≡ Ok new
Answers defined old new (Err e) = (new ≡ old) × (e ≢ OutOfMemory → defined ≡ Err e)

abbrev pub is_member : ℕ → Option Config → Bool
is_member node None = false
is_member node (Some config) = list_any (λ member. member == node) config.members

abbrev pub has_member : ℕ → KnownUnit → Bool
has_member node unit = is_member node unit.config

-- how many known units have the node as a member
abbrev pub load_of : ℕ → Table → ℕ
load_of node units = count_by (λ e. has_member node e.1) units

-- where a partition is on the ring
abbrev pub point_of : ℕ → ℕ
point_of partition = partition * 2 ^ 48

abbrev pub is_in : Interval → ℕ → Bool
is_in range point = nat_le range.lo point && nat_le point range.hi

-- the partitions with a known configuration, rising
abbrev pub known_partitions : Table → List ℕ
known_partitions units = map (λ e. e.0) (filter (λ e. is_some e.1.config) units)

-- of these partitions the ones whose points are in the range
abbrev pub among : Interval → List ℕ → List ℕ
among range partitions = filter (λ partition. is_in range (point_of partition)) partitions

abbrev pub partitions_in : Interval → Table → List ℕ
partitions_in range units = among range (known_partitions units)
