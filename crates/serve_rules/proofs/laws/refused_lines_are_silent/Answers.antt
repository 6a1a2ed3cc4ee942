use Rattle.serve_rules.proofs.Refusals.{refused_silent}
use Rattle.serve_rules.proofs.laws.refused_lines_are_silent.Goals as goal

pub returns : goal.returns
returns c = refused_silent
