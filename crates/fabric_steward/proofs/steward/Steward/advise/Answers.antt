use Rattle.std.proofs.Common.{arith, sym, ◌∙◌}
use Rattle.fabric_steward.proofs.Given.{none_command, none_policy, some_command, some_policy}
use Rattle.fabric_steward.proofs.steward.Steward.advise.Goals as goal

pub returns-in-None-clause-command : goal.returns-in-None-clause-command
returns-in-None-clause-command g c =
    none_command (g.K.Known.facts c.args.known.now) c.args.now c.args.self.now c.observe.new.self (record {
      domains = c.domains_up-domains.result;
      are = grind (arith, c.domains_up-domains.ensures, c.as_slice.ensures.value, c.self.view_is);
      looked = c.observe.ensures;
      gives = sym c.in-None.is ∙ c.advice.ensures;
    })

pub returns-in-None-clause-policy : goal.returns-in-None-clause-policy
returns-in-None-clause-policy g c =
    none_policy (g.K.Known.facts c.args.known.now) c.args.now c.args.self.now c.observe.new.self (record {
      domains = c.domains_up-domains.result;
      are = grind (arith, c.domains_up-domains.ensures, c.as_slice.ensures.value, c.self.view_is);
      looked = c.observe.ensures;
      gives = sym c.in-None.is ∙ c.advice.ensures;
    })

pub returns-in-Some-clause-command : goal.returns-in-Some-clause-command
returns-in-Some-clause-command g c =
    some_command (g.K.Known.facts c.args.known.now) c.args.now c.args.self.now c.observe.new.self c.in-Some.advice c.command.result (record {
      domains = c.domains_up-domains.result;
      are = grind (arith, c.domains_up-domains.ensures, c.as_slice.ensures.value, c.self.view_is);
      looked = c.observe.ensures;
      gives = sym c.in-Some.is ∙ c.advice.ensures;
    }) c.command.ensures

pub returns-in-Some-clause-policy : goal.returns-in-Some-clause-policy
returns-in-Some-clause-policy g c =
    some_policy (g.K.Known.facts c.args.known.now) c.args.now c.args.self.now c.observe.new.self c.follow.new.self c.in-Some.advice (record {
      domains = c.domains_up-domains.result;
      are = grind (arith, c.domains_up-domains.ensures, c.as_slice.ensures.value, c.self.view_is);
      looked = c.observe.ensures;
      gives = sym c.in-Some.is ∙ c.advice.ensures;
    }) c.follow.ensures
