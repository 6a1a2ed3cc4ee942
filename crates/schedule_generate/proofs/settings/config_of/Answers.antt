use Rattle.std.proofs.Common.{◌≡◌, ◌≢◌, ◌++◌, List, ℕ, Ok, Err, ap, sym, ◌∙◌, rules}
use Rattle.fabric_config.specs.Config.{config_of_line}
use Rattle.fabric_config.specs.declared.error.ConfigError.TheVariants.{OutOfMemory}
use Rattle.schedule_generate.specs.Settings.{config_line, generated_config}
use Rattle.schedule_generate.proofs.Reading.{line_read}
use Rattle.schedule_generate.proofs.settings.config_of.Goals as goal

pub returns-in-Ok-clause-is : goal.returns-in-Ok-clause-is
returns-in-Ok-clause-is c =
    let line : c.push_config_line.new.text.items ≡ config_line c.args.nodes =
    c.in_ok-push_config_line.ensures ∙ ap (λ (t : List ℕ). t ++ config_line c.args.nodes) c.new-line.ensures.items in
    let read : config_of_line c.deref.result.now ≡ Ok c.in-Ok.config = c.in-Ok.ensures.value in
    let both : Ok c.in-Ok.config ≡ Ok (generated_config c.args.nodes) = sym read ∙ (ap config_of_line (c.deref.ensures.value ∙ line) ∙ line_read c.args.nodes c.requires.some c.requires.few) in
    cc

pub unreachable-requires : goal.unreachable-requires
unreachable-requires c =
    let line : c.push_config_line.new.text.items ≡ config_line c.args.nodes =
    c.in_ok-push_config_line.ensures ∙ ap (λ (t : List ℕ). t ++ config_line c.args.nodes) c.new-line.ensures.items in
    let other : c.in-Err.field-0 ≢ OutOfMemory = search rules in
    let refused : config_of_line c.deref.result.now ≡ Err c.in-Err.field-0 = c.in-Err.ensures.value other in
    let both : Err c.in-Err.field-0 ≡ Ok (generated_config c.args.nodes) = sym refused ∙ (ap config_of_line (c.deref.ensures.value ∙ line) ∙ line_read c.args.nodes c.requires.some c.requires.few) in
    cc
