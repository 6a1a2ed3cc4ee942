-- What a change leaves known, and that it only rises.
use Rattle.std.proofs.Common.{◌≡◌, ℕ, ◌==◌, Bool, true, false, cond, Option, Some, None, is_some, Ok, refl, ap, ◌∙◌, arith}
use Rattle.std.specs.Prelude.{unwrap_or}
use Rattle.std.proofs.lemmas.Bool.Decides.{nat_tests}
use Rattle.ring_points.specs.declared.unit.Config.{Config}
use Rattle.ring_points.specs.declared.unit.Epoch.{Epoch}
use Rattle.ring_points.specs.Epochs.{is_older}
use Rattle.fabric_lemmas.specs.Maps.{at, put}
use Rattle.fabric_lemmas.proofs.Maps.{at-put}
use Rattle.failover_units.specs.declared.unit.KnownUnit.{KnownUnit}
use Rattle.failover_units.specs.Units.{Table, nothing, unit_of, greater, seen_at, newest, noted, is_full_for, changed}
use Rattle.failover_units.specs.Laws.{HasRisen, OnlyRises, NotingKeepsTheNewest, SeeingKeepsTheHighest, CreatingTellsNothing}

not_itself : (a : Epoch) → is_older a a ≡ false
not_itself a = grind (arith, nat_tests)

-- the greater of two is older than neither
no_older_than_first : (a b : Epoch) → is_older (greater a b) a ≡ false
no_older_than_first a b = by (is_older a b) refl
  where
    by : (t : Bool) → is_older a b ≡ t → is_older (greater a b) a ≡ false
    by true e = rw e (grind (arith, nat_tests, e))
    by false e = rw e (not_itself a)

no_older_than_second : (a b : Epoch) → is_older (greater a b) b ≡ false
no_older_than_second a b = by (is_older a b) refl
  where
    by : (t : Bool) → is_older a b ≡ t → is_older (greater a b) b ≡ false
    by true e = rw e (not_itself b)
    by false e = rw e e

no_older_than_known : (known config : Config) → is_older (newest (Some known) config).epoch known.epoch ≡ false
no_older_than_known known config = by (is_older known.epoch config.epoch) refl
  where
    by : (t : Bool) → is_older known.epoch config.epoch ≡ t → is_older (newest (Some known) config).epoch known.epoch ≡ false
    by true e = rw e (grind (arith, nat_tests, e))
    by false e = rw e (not_itself known.epoch)

no_older_than_noted : (known : Option Config) (config : Config) → is_older (newest known config).epoch config.epoch ≡ false
no_older_than_noted None config = not_itself config.epoch
no_older_than_noted (Some known) config = by (is_older known.epoch config.epoch) refl
  where
    by : (t : Bool) → is_older known.epoch config.epoch ≡ t → is_older (newest (Some known) config).epoch config.epoch ≡ false
    by true e = rw e (not_itself config.epoch)
    by false e = rw e e

noted_rises : (config : Config) (unit : KnownUnit) → HasRisen unit (noted config unit)
noted_rises config unit = record {
  highest = no_older_than_first unit.highest config.epoch;
  config = λ known e. (newest unit.config config, refl, rw e (no_older_than_known known config));
}

seen_rises : (epoch : Epoch) (unit : KnownUnit) → HasRisen unit (seen_at epoch unit)
seen_rises epoch unit = record {
  highest = no_older_than_first unit.highest epoch;
  config = λ known e. (known, e, not_itself known.epoch);
}

stays : (unit : KnownUnit) → HasRisen unit unit
stays unit = record { highest = not_itself unit.highest; config = λ known e. (known, e, not_itself known.epoch) }

-- a change that is answered Ok is put at its partition
changed_is : (old new : Table) (partition : ℕ) (change : KnownUnit → KnownUnit) → changed partition change old ≡ Ok new
    → new ≡ put partition (change (unit_of partition old)) old
changed_is old new partition change e = by (is_full_for partition old) refl
  where
    by : (b : Bool) → is_full_for partition old ≡ b → new ≡ put partition (change (unit_of partition old)) old
    by true full = let refused = rw full at e in absurd (cc)
    by false room = let done = rw room at e in cc

at_put : (q partition : ℕ) (unit : KnownUnit) (units : Table) → unit_of q (put partition unit units) ≡ cond (partition == q) unit (unit_of q units)
at_put q partition unit units = ap (λ o. unwrap_or o nothing) (at-put partition unit units q) ∙ by (partition == q)
  where
    by : (b : Bool) → unwrap_or (cond b (Some unit) (at q units)) nothing ≡ cond b unit (unit_of q units)
    by true = refl
    by false = refl

-- what rises at its partition rises everywhere
rises_everywhere : (old new : Table) (partition : ℕ) (change : KnownUnit → KnownUnit) → ((unit : KnownUnit) → HasRisen unit (change unit))
    → changed partition change old ≡ Ok new → OnlyRises old new
rises_everywhere old new partition change rises e q =
    rw (changed_is old new partition change e, at_put q partition (change (unit_of partition old)) old) (by (partition == q) refl)
  where
    by : (b : Bool) → (partition == q) ≡ b → HasRisen (unit_of q old) (cond (partition == q) (change (unit_of partition old)) (unit_of q old))
    by true same =
        let here : partition ≡ q = grind (arith, nat_tests, same) in
        rw (same, here) (rises (unit_of q old))
    by false other = rw other (stays (unit_of q old))

-- what is known of the partition itself after its change
changed_there : (old new : Table) (partition : ℕ) (change : KnownUnit → KnownUnit) → changed partition change old ≡ Ok new
    → unit_of partition new ≡ change (unit_of partition old)
changed_there old new partition change e =
    let same : (partition == partition) ≡ true = grind (arith, nat_tests) in
    rw (changed_is old new partition change e, at_put partition partition (change (unit_of partition old)) old, same) refl

pub noting : NotingKeepsTheNewest
noting old new config e =
    let there = changed_there old new config.partition (noted config) e in
    record {
      rises = rises_everywhere old new config.partition (noted config) (noted_rises config) e;
      known = rw there (newest (unit_of config.partition old).config config, refl, no_older_than_noted (unit_of config.partition old).config config);
      seen = rw there (no_older_than_second (unit_of config.partition old).highest config.epoch);
    }

pub seeing : SeeingKeepsTheHighest
seeing old new partition epoch e =
    let there = changed_there old new partition (seen_at epoch) e in
    record {
      rises = rises_everywhere old new partition (seen_at epoch) (seen_rises epoch) e;
      seen = rw there (no_older_than_second (unit_of partition old).highest epoch);
    }

pub creating : CreatingTellsNothing
creating old new partition e q = by (is_some (unit_of partition old).config) refl
  where
    here : (b : Bool) → (partition == q) ≡ b → cond (partition == q) (unit_of partition old) (unit_of q old) ≡ unit_of q old
    here true same = let is : partition ≡ q = grind (arith, nat_tests, same) in rw (same, is) refl
    here false other = rw other refl

    by : (b : Bool) → is_some (unit_of partition old).config ≡ b → unit_of q new ≡ unit_of q old
    by true known = let refused = rw known at e in absurd (cc)
    by false unknown =
        let done = rw unknown at e in
        rw (changed_is old new partition (λ unit. unit) done, at_put q partition (unit_of partition old) old) (here (partition == q) refl)
