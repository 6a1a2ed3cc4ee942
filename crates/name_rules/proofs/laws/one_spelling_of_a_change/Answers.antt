use Rattle.std.proofs.Common.{ap, ◌∙◌}
use Rattle.name_rules.specs.Grammar.{change_of}
use Rattle.name_rules.proofs.Spelling.{again, found}
use Rattle.name_rules.proofs.laws.one_spelling_of_a_change.Goals as goal

pub returns : goal.returns
returns g bytes c = (found bytes c, λ h e. ap change_of e ∙ again c h)
