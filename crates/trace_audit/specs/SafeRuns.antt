-- A run of the whole product is safe.
use Rattle.fabric_terms.specs.Primaries.{Safe}
use Rattle.unit_rules.specs.Units.{units}
use Rattle.world_rules.specs.Runs.{run_of}
use Rattle.epoch_safety.specs.Laws.{OverValidRuns}

-- every valid run of every sound configuration
abbrev pub RunsAreSafe : Type 0
RunsAreSafe = OverValidRuns (λ c h. Safe (run_of units c h))
