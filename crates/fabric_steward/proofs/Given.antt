-- The advice that the code finds is that of the policy which has looked.
use Rattle.std.proofs.Common.{◌≡◌, ℕ, Option, Some, None, ap, ◌∙◌}
use Rattle.std.specs.Prelude.{option_map}
use Rattle.fabric_terms.specs.declared.command.Command.{Command}
use Rattle.fabric_steward.specs.declared.advice.Advice.{Advice}
use Rattle.fabric_steward.specs.Afterwards.{advised, after, command_given, followed}
use Rattle.fabric_steward.specs.Domains.{domains_up}
use Rattle.fabric_steward.specs.Facts.{Facts}
use Rattle.fabric_steward.specs.Policies.{Policy}
use Rattle.fabric_steward.specs.Rules.{advice, advice_in, command_of}
use Rattle.fabric_steward.specs.Watching.{observed}

-- what was found of the domains, the policy and the advice
pub record Found (f : Facts) (now : ℕ) (old s : Policy) (a : Option Advice) : Type 0 where
  pub domains : ℕ
  pub are : domains ≡ domains_up f now old.nodes
  pub looked : s ≡ observed f now old
  pub gives : a ≡ advice_in f now domains s

pub found_is : (f : Facts) (now : ℕ) (old s : Policy) (a : Option Advice) → Found f now old s a → a ≡ advice f now (observed f now old)
found_is f now old s a found =
    found.gives ∙ ap (λ d. advice_in f now d s) found.are ∙ ap (advice_in f now (domains_up f now old.nodes)) found.looked

pub none_command : (f : Facts) (now : ℕ) (old s : Policy) → Found f now old s None → None ≡ command_given f now old
none_command f now old s found = ap (option_map command_of) (found_is f now old s None found)

pub none_policy : (f : Facts) (now : ℕ) (old s : Policy) → Found f now old s None → s ≡ advised f now old
none_policy f now old s found = found.looked ∙ ap (λ a. after a now (observed f now old)) (found_is f now old s None found)

pub some_command : (f : Facts) (now : ℕ) (old s : Policy) (a : Advice) (command : Command) → Found f now old s (Some a) → command ≡ command_of a
    → Some command ≡ command_given f now old
some_command f now old s a command found is = ap Some is ∙ ap (option_map command_of) (found_is f now old s (Some a) found)

pub some_policy : (f : Facts) (now : ℕ) (old s new : Policy) (a : Advice) → Found f now old s (Some a) → new ≡ followed a now s → new ≡ advised f now old
some_policy f now old s new a found is =
    is ∙ ap (followed a now) found.looked ∙ ap (λ b. after b now (observed f now old)) (found_is f now old s (Some a) found)
