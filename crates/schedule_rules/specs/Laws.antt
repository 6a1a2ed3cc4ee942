-- What the laws of this crate say of the judging and of what is written.
use Rattle.std.specs.Prelude.{◌≡◌, ℕ, List, Some, All}
use Rattle.fabric_terms.specs.Sound.{IsSound}
use Rattle.fabric_terms.specs.declared.config.FabricConfig.{FabricConfig}
use Rattle.frame_format.specs.Kinds.{is_frame}
use Rattle.fabric_terms.specs.Ranges.{Fits}
use Rattle.unit_rules.specs.Fabric.{fabric}
use Rattle.world_rules.specs.Runs.{History}
use Rattle.world_rules.specs.Schedules.{Valid}
use Rattle.schedule_rules.specs.Output.{IsOutput}
use Rattle.schedule_rules.specs.Schedule.{Judged, judge}

-- one text at most is written of a schedule
abbrev pub OneOutput : Type 0
OneOutput = (j : Judged) (text other : List ℕ) → IsOutput j text → IsOutput j other → text ≡ other

-- the configuration is sound, each event is in the ranges of schedules, and they are a valid schedule
pub record IsValidHistory (c : FabricConfig) (h : History) : Type 0 where
  pub sound : IsSound c
  pub fits : All (λ e. Fits e.1) h
  pub valid : Valid fabric is_frame c h

-- whatever the bytes are, what is accepted of them is valid
abbrev pub AcceptedIsValid : Type 0
AcceptedIsValid = (bytes : List ℕ) (c : FabricConfig) → (judge bytes).config ≡ Some c → IsValidHistory c (judge bytes).history
