-- What is done where the words are none of the forms.
use Rattle.std.specs.Prelude.{◌⊎◌, ℕ, List, Option}
use Rattle.fabric_top.specs.CrewRuns.{Seen}
use Rattle.edge_io.specs.Edge.{Grew, GrewByFront, HasRisen}
use Rattle.fabric_status.specs.Faults.{fault_line}
use Rattle.fabric_status.specs.declared.status.Status.{Status}
use Rattle.fabric_status.specs.declared.status.Status.TheVariants as status
use Rattle.std.specs.Prelude.{◌≡◌}

-- what a sink has more where the words are none of the forms: the line, or a front of it where the sink failed or
-- wanted memory
abbrev pub EndsUsage : Status → Option (List ℕ) → Option (List ℕ) → ℕ → ℕ → Type 0
EndsUsage status.Usage old new before now = Grew old new (fault_line status.Usage) ⊎ (GrewByFront old new (fault_line status.Usage) × HasRisen before now)
EndsUsage status.OutOfMemory old new before now = GrewByFront old new (fault_line status.Usage)
EndsUsage _ old new before now = ⊥

-- the line is written, and nothing is read, opened, kept or sent
pub record IsUsage (a : Seen) (ended : Status) (c : Seen) : Type 0 where
  pub written : EndsUsage ended a.told.held c.told.held a.told.sink_faults c.told.sink_faults
  pub rest : c ≡ record a { told = record a.told { held = c.told.held; sink_faults = c.told.sink_faults } }
