use Rattle.serve_rules.proofs.Refusals.{ends_or_is_kept}
use Rattle.serve_rules.proofs.laws.answers_end_or_are_kept.Goals as goal

pub returns : goal.returns
returns c = ends_or_is_kept
