-- What `writes` writes, and how it ends.
use Rattle.std.specs.Prelude.{◌≡◌, ℕ, true, List, [], ◌++◌, length, Option, Some, None}
use Rattle.fabric_status.specs.Codes.{status_of}
use Rattle.fabric_status.specs.Faults.{fault_line}
use Rattle.fabric_status.specs.declared.status.Refusal.{Refusal}
use Rattle.fabric_status.specs.declared.status.Status.{Status}
use Rattle.fabric_terms.specs.declared.config.FabricConfig.{FabricConfig}
use Rattle.unit_rules.specs.Ruled.{ruled}
use Rattle.schedule_rules.specs.Endings.{EndsSo}
use Rattle.schedule_rules.specs.Output.{end_line}
use Rattle.schedule_rules.specs.Schedule.{Judged}
use Rattle.schedule_rules.specs.Telling.{Telling}
use Rattle.world_rules.specs.Runs.{History}
use Rattle.write_safety.specs.Books.{KeptLog, logs_rise}
use Rattle.write_safety.specs.Fed.{HasCommitted}
use Rattle.write_safety.specs.Lines.{kept_lines}

-- The lines of the committed logs, rising by partition, data loss number and number, and then the end. Whatever list of
-- logs has them, the lines are the same.
pub record IsKept (c : FabricConfig) (h : History) (text : List ℕ) : Type 0 where
  pub logs : List KeptLog
  pub rise : logs_rise logs ≡ true
  pub committed : HasCommitted c h logs
  pub written : text ≡ kept_lines logs ++ end_line (length h) (ruled c h).count

-- those of the events that are accepted; there are none without a configuration
abbrev pub IsKeptOf : Option FabricConfig → History → List ℕ → Type 0
IsKeptOf None h text = ⊥
IsKeptOf (Some c) h text = IsKept c h text

-- where a line is refused, its fault alone
abbrev pub IsOutputAt : Judged → Option Refusal → List ℕ → Type 0
IsOutputAt j None text = IsKeptOf j.config j.history text
IsOutputAt j (Some refusal) text = text ≡ fault_line (status_of refusal)

-- what is written of a schedule: its committed logs, or the fault
abbrev pub IsOutput : Judged → List ℕ → Type 0
IsOutput j text = IsOutputAt j j.refused text

-- nothing is told of the events, so nothing stands before a fault
abbrev pub no_lines : Option FabricConfig → History → List ℕ
no_lines config h = []

-- what a sink has more at each status of `writes`, where it tells; by what the source has left, and whether it failed
abbrev pub Writes : Status → Judged → Option (List ℕ) → Type 0 → Option (List ℕ) → Option (List ℕ) → Type 0
Writes ended j left failed old new = EndsSo IsOutput no_lines ended j left failed old new

-- nothing is told of an event, and the committed logs at the end
abbrev pub writes_telling : Telling
writes_telling = record { heading = []; told = λ c h. []; ends = IsKept }
