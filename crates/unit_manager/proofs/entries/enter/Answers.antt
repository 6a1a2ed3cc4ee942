use Rattle.std.proofs.Common.{rules, ◌≡◌, ℕ, List, insert, nat_lt, ap, ◌∙◌}
use Rattle.std.specs.List.{position_or_len}
use Rattle.reconfig_phases.specs.declared.reconfig.Reconfig.{Reconfig}
use Rattle.unit_manager.specs.Managers.{reconfigs_of}
use Rattle.unit_manager.proofs.Places.{entered}
use Rattle.unit_manager.proofs.entries.enter.Goals as goal

pub returns : goal.returns
returns c =
    let es : List (ℕ × Reconfig) = c.args.reconfigs.now.items in
    let first : c.place_above-i.result ≡ position_or_len (λ (e : ℕ × Reconfig). nat_lt c.args.partition e.0) es = search rules in
    let new : c.insert.new.self.items ≡ insert es c.place_above-i.result (c.args.partition, c.args.reconfig) = search rules in
    ap reconfigs_of new ∙ entered c.args.partition c.args.reconfig es c.place_above-i.result first c.requires.new
