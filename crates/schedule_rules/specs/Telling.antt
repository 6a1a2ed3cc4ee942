-- What a word that runs a schedule writes of it.
use Rattle.std.specs.Prelude.{◌≡◌, ℕ, List, [], ◌∷◌, ◌++◌, Option, Some, None}
use Rattle.fabric_terms.specs.declared.config.FabricConfig.{FabricConfig}
use Rattle.world_rules.specs.Runs.{History}
use Rattle.fabric_status.specs.Codes.{status_of}
use Rattle.fabric_status.specs.Faults.{fault_line}
use Rattle.fabric_status.specs.declared.status.Refusal.{Refusal}
use Rattle.schedule_rules.specs.Schedule.{Judged}

-- what stands before all lines, what is told of the newest event of a history, and which texts may end a good schedule
pub record Telling : Type 1 where
  pub heading : List ℕ
  pub told : FabricConfig → History → List ℕ
  pub ends : FabricConfig → History → List ℕ → Type 0

-- what is told of each event of a history, the oldest first, behind the heading
abbrev pub lines_told : Telling → FabricConfig → History → List ℕ
lines_told t c [] = t.heading
lines_told t c (e ∷ h) = lines_told t c h ++ t.told c (e ∷ h)

-- without a configuration there is the heading alone
abbrev pub lines_judged : Telling → Option FabricConfig → History → List ℕ
lines_judged t None h = t.heading
lines_judged t (Some c) h = lines_told t c h

-- the text of a good schedule: the lines of all its events, and an ending
abbrev pub IsToldWhole : Telling → Option FabricConfig → History → List ℕ → Type 0
IsToldWhole t None h text = ⊥
IsToldWhole t (Some c) h text = (ending : List ℕ) × (t.ends c h ending) × (text ≡ lines_told t c h ++ ending)

abbrev pub IsToldAt : Telling → Judged → Option Refusal → List ℕ → Type 0
IsToldAt t j None text = IsToldWhole t j.config j.history text
IsToldAt t j (Some refusal) text = text ≡ lines_judged t j.config j.history ++ fault_line (status_of refusal)

-- what is written of a schedule: all of it, or the lines of what was accepted and the fault
abbrev pub IsTold : Telling → Judged → List ℕ → Type 0
IsTold t j text = IsToldAt t j j.refused text
