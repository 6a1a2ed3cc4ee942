-- What `replay` writes, and how it ends.
use Rattle.std.specs.Prelude.{◌≡◌, ◌⊎◌, List, ℕ, Option}
use Rattle.fabric_terms.specs.declared.config.FabricConfig.{FabricConfig}
use Rattle.fabric_status.specs.declared.status.Status.{Status}
use Rattle.fabric_status.specs.declared.status.Status.TheVariants as status
use Rattle.world_rules.specs.Runs.{History}
use Rattle.schedule_rules.specs.Endings.{EndsSo}
use Rattle.schedule_rules.specs.Output.{IsOutput, lines_of_run, run_judged}
use Rattle.schedule_rules.specs.Schedule.{Judged}

-- the lines of the run of these events
abbrev pub run_lines : Option FabricConfig → History → List ℕ
run_lines config history = lines_of_run (run_judged config history)

-- what a sink has more at each status of `replay`, where it tells; by what the source has left, and whether it failed
abbrev pub Writes : Status → Judged → Option (List ℕ) → Type 0 → Option (List ℕ) → Option (List ℕ) → Type 0
Writes ended j left failed old new = EndsSo IsOutput run_lines ended j left failed old new

-- all was done, or there was not enough memory
abbrev pub IsDone : Status → Type 0
IsDone ended = (ended ≡ status.Ok) ⊎ (ended ≡ status.OutOfMemory)
