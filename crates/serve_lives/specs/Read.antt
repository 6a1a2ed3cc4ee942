-- A steward with the settings of a FILE that was read.
use Rattle.std.specs.Prelude.{◌≡◌, ℕ, List}
use Rattle.fabric_steward.specs.Calls.{Call, policy_after}
use Rattle.fabric_steward.specs.Policies.{Policy, fresh_policy}
use Rattle.fabric_terms.specs.Sound.{IsSound}
use Rattle.fabric_terms.specs.declared.config.FabricConfig.{FabricConfig}
use Rattle.service_file.specs.Sound.{IsSoundService}
use Rattle.service_file.specs.declared.settings.ServiceSettings.{ServiceSettings}

-- It is the steward of these settings after these calls, the newest first.
pub record WasRead (s : Policy) : Type 0 where
  pub config : FabricConfig
  pub settings : ServiceSettings
  pub me : ℕ
  pub calls : List Call
  pub sound : IsSound config
  pub service : IsSoundService config settings
  pub is : s ≡ policy_after (fresh_policy config settings me) calls
