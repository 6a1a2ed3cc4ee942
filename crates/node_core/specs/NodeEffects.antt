-- What a step leaves in its effects, and the room for it.
use Rattle.std.specs.Prelude.{◌≡◌, ℕ, ◌+◌, ◌≤◌, [], length, vec_capacity, vec_len}
use Rattle.ring_points.specs.Limits.{most_step_reports}
use Rattle.unit_desk.specs.Limits.{most_row_records, most_row_reports}
use Rattle.unit_desk.specs.UnitEffects.{IsClear as IsClearAbove}
use Rattle.node_core.specs.Nodes.{IsNothing}
use Rattle.node_core.specs.declared.node_effects.NodeEffects.{NodeEffects}
use Rattle.node_core.specs.declared.outcome.Outcome.{Outcome}

-- what has been left there
abbrev pub left_in : NodeEffects → Outcome
left_in d = record { records = d.records.items; frames = d.frames.items; reports = d.reports.items }

-- nothing of an earlier step is there
pub record IsClear (d : NodeEffects) : Type 0 where
  pub out : d.out ≡ []
  pub told : d.told.value ≡ []
  pub units : IsClearAbove d.units
  pub left : IsNothing (left_in d)

-- memory for what a step leaves, with so many frames
pub record HasRoom (most : ℕ) (d : NodeEffects) : Type 0 where
  pub records : most_row_records ≤ vec_capacity d.records
  pub frames : most ≤ vec_capacity d.frames
  pub reports : most_step_reports ≤ vec_capacity d.reports

-- a step with so many frames may come
pub record IsReady (most : ℕ) (d : NodeEffects) : Type 0 where
  pub clear : IsClear d
  pub room : HasRoom most d

-- memory for what the ring and a row above it have done, behind what has been left, and for what the ring owns then
pub record HasPlace (d : NodeEffects) : Type 0 where
  pub records : vec_len d.records + most_row_records ≤ vec_capacity d.records
  pub frames : vec_len d.frames + (length d.out + length d.units.out) ≤ vec_capacity d.frames
  pub reports : vec_len d.reports + (length d.told.value + most_row_reports + 1) ≤ vec_capacity d.reports

-- the memory is as much as before, or more
pub record IsAsLarge (before after : NodeEffects) : Type 0 where
  pub records : vec_capacity before.records ≤ vec_capacity after.records
  pub frames : vec_capacity before.frames ≤ vec_capacity after.frames
  pub reports : vec_capacity before.reports ≤ vec_capacity after.reports

-- where nothing is taken out of a list, its memory stays
pub record StaysLarge (o : Outcome) (before after : NodeEffects) : Type 0 where
  pub records : o.records ≡ [] → vec_capacity after.records ≡ vec_capacity before.records
  pub frames : o.frames ≡ [] → vec_capacity after.frames ≡ vec_capacity before.frames
  pub reports : o.reports ≡ [] → vec_capacity after.reports ≡ vec_capacity before.reports
