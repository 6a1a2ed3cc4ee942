use Rattle.link_core.proofs.GreetTies.{greet_tie}
use Rattle.link_core.proofs.laws.a_greeting_is_its_row.Goals as goal

pub returns : goal.returns
returns c = greet_tie
