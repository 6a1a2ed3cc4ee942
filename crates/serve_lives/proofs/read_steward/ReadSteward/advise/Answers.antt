use Rattle.std.proofs.Common.{◌∙◌, ap}
use Rattle.fabric_steward.specs.Afterwards.{advised, command_given}
use Rattle.fabric_steward.specs.Policies.{Policy}
use Rattle.serve_lives.proofs.Reading.{read_advised, read_fits}
use Rattle.serve_lives.proofs.read_steward.ReadSteward.advise.Goals as goal

pub invariant_of-self : goal.invariant_of-self
invariant_of-self g c = rw c.advise.ensures.policy (read_advised (g.K.Known.facts c.args.known.now) c.args.now c.self.inside.steward c.self.invariant)

pub returns-clause-command : goal.returns-clause-command
returns-clause-command g c =
    c.advise.ensures.command ∙ ap (λ (s : Policy). command_given (g.K.Known.facts c.args.known.now) c.args.now s) c.self.view_is

pub returns-clause-policy : goal.returns-clause-policy
returns-clause-policy g c =
    c.advise.ensures.policy ∙ ap (λ (s : Policy). advised (g.K.Known.facts c.args.known.now) c.args.now s) c.self.view_is

pub returns-clause-fits : goal.returns-clause-fits
returns-clause-fits g c = rw c.advise.ensures.command (read_fits (g.K.Known.facts c.args.known.now) c.args.now c.self.inside.steward c.self.invariant)
