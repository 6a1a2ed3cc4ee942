-- What a row of partitions leaves.
use Rattle.std.specs.Prelude.{◌≡◌, ℕ, ◌+◌, ◌≤◌, List, [], ◌++◌, length}
use Rattle.ring_points.specs.Limits.{most_arbiters, most_messages}
use Rattle.unit_rules.specs.Deeds.{Deed, Acted, records_of, frames_of, reports_of}
use Rattle.unit_desk.specs.declared.unit_effects.UnitEffects.{UnitEffects}
use Rattle.unit_desk.specs.Limits.{most_row_records, most_row_reports}

-- nothing is left
pub record IsClear (d : UnitEffects) : Type 0 where
  pub records : d.records ≡ []
  pub sent : d.out ≡ []
  pub told : d.told ≡ []

-- there is room for so many records, frames and reports
pub record HasRoomFor (kept frames reports : ℕ) (d : UnitEffects) : Type 0 where
  pub records : length d.records + kept ≤ most_row_records
  pub sent : length d.out + frames ≤ most_messages
  pub told : length d.told + reports ≤ most_row_reports

-- there is room for a row: it records and reports two things at most, and asks each arbitrator once at most
abbrev pub HasRoom : UnitEffects → Type 0
HasRoom d = HasRoomFor 2 most_arbiters 2 d

-- these deeds are in the effects, behind what was there
pub record Left (deeds : List Deed) (before after : UnitEffects) : Type 0 where
  pub records : after.records ≡ before.records ++ records_of deeds
  pub sent : after.out ≡ before.out ++ frames_of deeds
  pub told : after.told ≡ before.told ++ reports_of deeds

-- what the row says stands now, and its deeds are in the effects
pub record Does {S : Type 0} (a : Acted S) (new : S) (before after : UnitEffects) : Type 0 where
  pub state : new ≡ a.state
  pub left : Left a.deeds before after
