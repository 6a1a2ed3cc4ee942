-- What contracts see of a reconfiguration, and what its calls say of it.
use Rattle.std.specs.Prelude.{◌≡◌, ◌≤◌, ◌+◌, List, ◌++◌, length, Option, Some, None, Result, Ok, Err}
use Rattle.ring_points.specs.declared.who.Who.{Who}
use Rattle.fabric_terms.specs.declared.message.Body.{Body}
use Rattle.unit_rules.specs.Deeds.{Acted, frames_of}
use Rattle.unit_rules.specs.Reconfigs as rules
use Rattle.reconfig_phases.specs.declared.reconfig.Reconfig.{Reconfig}
use Rattle.reconfig_phases.specs.declared.reconfig.Reconfig.TheVariants.{Prepare, Phase0, Phase1, Decide, Phase2, Phase3, Phase4}
use Rattle.reconfig_phases.specs.declared.step.Progress.{Progress}
use Rattle.reconfig_phases.specs.declared.step.Progress.TheVariants as progress
use Rattle.reconfig_phases.specs.declared.step.Step.{Step}
use Rattle.reconfig_phases.specs.declared.step.Step.TheVariants as step

abbrev pub reconfig_of : Reconfig → rules.Reconfig
reconfig_of (Prepare p) = rules.Prepare p
reconfig_of (Phase0 p) = rules.Phase0 p
reconfig_of (Phase1 p) = rules.Phase1 p
reconfig_of (Decide p) = rules.Decide p
reconfig_of (Phase2 p) = rules.Phase2 p
reconfig_of (Phase3 p) = rules.Phase3 p
reconfig_of (Phase4 p) = rules.Phase4 p

-- how it is with a reconfiguration that stands so after an answer
abbrev pub step_with : Reconfig → Progress → rules.Step
step_with r progress.Stays = rules.Stay (reconfig_of r)
step_with r (progress.Finished config) = rules.Finished config
step_with r (progress.Superseded epoch) = rules.Superseded epoch
step_with r (progress.Refused refusal) = rules.Refused refusal

abbrev pub step_of : Step → rules.Step
step_of (step.Stay r) = rules.Stay (reconfig_of r)
step_of (step.Finished config) = rules.Finished config
step_of (step.Superseded epoch) = rules.Superseded epoch
step_of (step.Refused refusal) = rules.Refused refusal

-- this holds where the configuration is active
abbrev pub IfFinished : Progress → Type 0 → Type 0
IfFinished (progress.Finished config) P = P
IfFinished progress.Stays P = Unit {0}
IfFinished (progress.Superseded epoch) P = Unit {0}
IfFinished (progress.Refused refusal) P = Unit {0}

-- a phase ends as it is defined, or stands so
abbrev pub Ends : {A P : Type 0} → Result A P → Option A → P → Type 0
Ends defined (Some x) new = defined ≡ Ok x
Ends defined None new = defined ≡ Err new

-- what was defined is what was done: how it is with the reconfiguration, and what is sent behind what was sent before
pub record Does (a : Acted rules.Step) (is : rules.Step) (before after : List (Who × Body)) : Type 0 where
  pub step : a.state ≡ is
  pub sent : after ≡ before ++ frames_of a.deeds
  pub few : length after ≤ length before + 9
