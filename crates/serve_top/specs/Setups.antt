-- What FILE says, or the first check that it fails.
use Rattle.std.specs.Prelude.{◌≡◌, ◌≢◌, ℕ, Bool, List, All, Result, Ok, Err, length, nat_lt, if◌then◌else◌}
use Rattle.fabric_config.specs.Config.{config_of_line, lacks_address}
use Rattle.fabric_config.specs.declared.error.ConfigError.{ConfigError}
use Rattle.fabric_config.specs.declared.error.ConfigError.TheVariants.{Missing}
use Rattle.fabric_config.specs.declared.field.Field.{Field}
use Rattle.fabric_status.specs.declared.status.Status.TheVariants.{BadConfig, BadLine, TooLarge}
use Rattle.fabric_terms.specs.declared.config.FabricConfig.{FabricConfig}
use Rattle.service_file.specs.Settings.{service_of}
use Rattle.service_file.specs.Texts.{checksum_of}
use Rattle.service_file.specs.declared.error.ServiceError.{ServiceError}
use Rattle.service_file.specs.declared.error.ServiceError.TheVariants as refused
use Rattle.service_file.specs.declared.settings.ServiceSettings.{ServiceSettings}
use Rattle.serve_top.specs.Addresses.{IsAddress, IsFirstBad, RefusesAddress, addresses_of, short}
use Rattle.serve_top.specs.Files.{config_line, has_two, most_file_line, service_line}
use Rattle.serve_top.specs.declared.end.End.{End}
use Rattle.serve_top.specs.declared.end.End.TheVariants as end
use Rattle.serve_top.specs.declared.setup.Setup.{Setup}

-- the answer is the one that is defined, but for want of memory
abbrev pub Judges : {A : Type 0} → Result A End → Result A End → Type 0
Judges defined (Ok x) = defined ≡ Ok x
Judges defined (Err e) = e ≢ short → defined ≡ Err e

-- The lines

-- line 1: a configuration in which each actor has an address
abbrev pub unless_missing : FabricConfig → Result FabricConfig End
unless_missing c = if lacks_address c then Err (end.As (BadConfig (Missing Field.At))) else Ok c

abbrev pub config_from : Result FabricConfig ConfigError → Result FabricConfig End
config_from (Ok c) = unless_missing c
config_from (Err e) = Err (end.As (BadConfig e))

abbrev pub config_in : List ℕ → Result FabricConfig End
config_in line = if nat_lt most_file_line (length line) then Err (end.As (TooLarge 1)) else config_from (config_of_line line)

-- line 2: the service object of that configuration
abbrev pub settings_from : Result ServiceSettings ServiceError → Result ServiceSettings End
settings_from (Ok s) = Ok s
settings_from (Err (refused.Bad field)) = Err (end.Service field)
settings_from (Err refused.OutOfMemory) = Err short

abbrev pub settings_in : FabricConfig → List ℕ → Result ServiceSettings End
settings_in c line = if nat_lt most_file_line (length line) then Err (end.As (TooLarge 2)) else settings_from (service_of c line)

-- both, and nothing behind them
abbrev pub if_two : FabricConfig → Bool → Result ServiceSettings End → Result (FabricConfig × ServiceSettings) End
if_two c two (Err e) = Err e
if_two c two (Ok s) = if two then Ok (c, s) else Err (end.As (BadLine 3))

abbrev pub with_config : List ℕ → Result FabricConfig End → Result (FabricConfig × ServiceSettings) End
with_config file (Err e) = Err e
with_config file (Ok c) = if_two c (has_two file) (settings_in c (service_line file))

unfoldable pub lines_in : List ℕ → Result (FabricConfig × ServiceSettings) End
lines_in file = with_config file (config_in (config_line file))

-- All of FILE

-- what it says: each part of it is read as it is defined
pub record Says (file : List ℕ) (s : Setup) : Type 0 where
  pub lines : lines_in file ≡ Ok (s.config, s.settings)
  pub addresses : All IsAddress (addresses_of s.config)
  pub checksum : s.checksum ≡ checksum_of s.config

-- Line 1, line 2 or what stands behind them is refused; or all of this is good, and the first address that is none is
-- refused; or memory was short.
pub data IsRefused (file : List ℕ) (e : End) : Type 0 where
  lines : (e ≢ short → lines_in file ≡ Err e) → IsRefused file e
  address : (read : FabricConfig × ServiceSettings) → lines_in file ≡ Ok read → (bad : List ℕ) → IsFirstBad (addresses_of read.0) bad → RefusesAddress bad e → IsRefused file e
  memory : e ≡ short → IsRefused file e

-- what FILE says, or the first check that it fails; want of memory may come in place of either
abbrev pub JudgesFile : List ℕ → Result Setup End → Type 0
JudgesFile file (Ok s) = Says file s
JudgesFile file (Err e) = IsRefused file e
