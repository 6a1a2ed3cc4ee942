-- What is known of a partition only rises.
use Rattle.std.specs.Prelude.{◌≡◌, ℕ, false, Some, Ok}
use Rattle.ring_points.specs.declared.unit.Config.{Config}
use Rattle.ring_points.specs.declared.unit.Epoch.{Epoch}
use Rattle.ring_points.specs.Epochs.{is_older}
use Rattle.failover_units.specs.declared.unit.KnownUnit.{KnownUnit}
use Rattle.failover_units.specs.Units.{Table, unit_of, changed, noted, seen_at, created}

-- the unit's configuration is at least as new as this one
abbrev pub HasNoOlder : Config → KnownUnit → Type 0
HasNoOlder config unit = (known : Config) × (unit.config ≡ Some known) × (is_older known.epoch config.epoch ≡ false)

-- no epoch of the old unit is newer than that of the new one
pub record HasRisen (old new : KnownUnit) : Type 0 where
  pub highest : is_older new.highest old.highest ≡ false
  pub config : (known : Config) → old.config ≡ Some known → HasNoOlder known new

-- every unit of the old table has risen in the new one
abbrev pub OnlyRises : Table → Table → Type 0
OnlyRises old new = (partition : ℕ) → HasRisen (unit_of partition old) (unit_of partition new)

-- a noted configuration is known from then on, unless a newer one is, and its epoch counts as seen
pub record IsNoted (old new : Table) (config : Config) : Type 0 where
  pub rises : OnlyRises old new
  pub known : HasNoOlder config (unit_of config.partition new)
  pub seen : is_older (unit_of config.partition new).highest config.epoch ≡ false

abbrev pub NotingKeepsTheNewest : Type 0
NotingKeepsTheNewest =
    (old new : Table) (config : Config)
    → changed config.partition (noted config) old ≡ Ok new → IsNoted old new config

pub record IsSeen (old new : Table) (partition : ℕ) (epoch : Epoch) : Type 0 where
  pub rises : OnlyRises old new
  pub seen : is_older (unit_of partition new).highest epoch ≡ false

abbrev pub SeeingKeepsTheHighest : Type 0
SeeingKeepsTheHighest =
    (old new : Table) (partition : ℕ) (epoch : Epoch)
    → changed partition (seen_at epoch) old ≡ Ok new → IsSeen old new partition epoch

-- a new partition is known by nothing
abbrev pub CreatingTellsNothing : Type 0
CreatingTellsNothing =
    (old new : Table) (partition : ℕ)
    → created partition old ≡ Ok new → (other : ℕ) → unit_of other new ≡ unit_of other old
