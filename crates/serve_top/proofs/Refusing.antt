-- What refuses FILE for its addresses.
use Rattle.std.proofs.Common.{◌≡◌, ℕ, List}
use Rattle.std.specs.Prelude.{Err, Ok}
use Rattle.fabric_terms.specs.declared.config.FabricConfig.{FabricConfig}
use Rattle.service_file.specs.declared.settings.ServiceSettings.{ServiceSettings}
use Rattle.serve_top.specs.Addresses.{NeedsAddresses, addresses_of}
use Rattle.serve_top.specs.Setups.{IsRefused, address, lines_in}
use Rattle.serve_top.specs.declared.end.End.{End}

-- both lines are good, and an address is none
pub refuses : (file : List ℕ) (config : FabricConfig) (settings : ServiceSettings) (e : End) → lines_in file ≡ Ok (config, settings) → NeedsAddresses (addresses_of config) (Err e) → IsRefused file e
refuses file config settings e read (bad, first, refused) = address (config, settings) read bad first refused
