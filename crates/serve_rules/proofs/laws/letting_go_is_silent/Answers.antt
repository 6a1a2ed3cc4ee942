use Rattle.serve_rules.proofs.Reading.{let_go_silent}
use Rattle.serve_rules.proofs.laws.letting_go_is_silent.Goals as goal

pub returns : goal.returns
returns c = let_go_silent
