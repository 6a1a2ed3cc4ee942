-- A steward whose settings were read stays one, and its commands are in their ranges.
use Rattle.std.proofs.Common.{ℕ, List, [], ◌∷◌, refl, ap, subst, sym}
use Rattle.std.specs.Prelude.{IfSome}
use Rattle.fabric_steward.proofs.Fitting.{gives_what_fits}
use Rattle.fabric_steward.specs.Afterwards.{advised, command_given}
use Rattle.fabric_steward.specs.Calls.{Advised, Noted}
use Rattle.fabric_steward.specs.Facts.{Facts}
use Rattle.fabric_steward.specs.Noted.{noted}
use Rattle.fabric_steward.specs.Policies.{Policy, fresh_policy}
use Rattle.fabric_terms.specs.Ranges.{FitsCommand}
use Rattle.fabric_terms.specs.Sound.{IsSound}
use Rattle.fabric_terms.specs.declared.config.FabricConfig.{FabricConfig}
use Rattle.fabric_terms.specs.declared.report.Report.{Report}
use Rattle.ring_rules.specs.declared.input.Input.{Input}
use Rattle.serve_lives.specs.Read.{WasRead}
use Rattle.service_file.specs.Sound.{IsSoundService}
use Rattle.service_file.specs.declared.settings.ServiceSettings.{ServiceSettings}

pub read_fresh : (c : FabricConfig) (settings : ServiceSettings) (me : ℕ) → IsSound c → IsSoundService c settings → WasRead (fresh_policy c settings me)
read_fresh c settings me sound service = record { config = c; settings = settings; me = me; calls = []; sound = sound; service = service; is = refl }

pub read_advised : (f : Facts) (now : ℕ) (s : Policy) → WasRead s → WasRead (advised f now s)
read_advised f now s w = record {
  config = w.config;
  settings = w.settings;
  me = w.me;
  calls = Advised f now ∷ w.calls;
  sound = w.sound;
  service = w.service;
  is = ap (advised f now) w.is;
}

pub read_noted : (input : Input) (told : List Report) (s : Policy) → WasRead s → WasRead (noted input told s)
read_noted input told s w = record {
  config = w.config;
  settings = w.settings;
  me = w.me;
  calls = Noted input told ∷ w.calls;
  sound = w.sound;
  service = w.service;
  is = ap (noted input told) w.is;
}

pub read_fits : (f : Facts) (now : ℕ) (s : Policy) → WasRead s → IfSome (command_given f now s) FitsCommand
read_fits f now s w =
    subst (λ (x : Policy). IfSome (command_given f now x) FitsCommand) (sym w.is) (gives_what_fits w.config w.settings w.me w.calls f now w.sound w.service)
