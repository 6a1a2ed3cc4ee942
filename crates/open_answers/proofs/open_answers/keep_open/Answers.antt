use Rattle.std.proofs.Common.{rules}
use Rattle.std.specs.Prelude.{is_none}
use Rattle.std.proofs.lemmas.Fn.{filter_same}
use Rattle.open_answers.specs.Answers.{by_cause}
use Rattle.open_answers.proofs.open_answers.keep_open.Goals as goal

pub returns-clause-kept : goal.returns-clause-kept
returns-clause-kept c = filter_same _ (λ o. is_none (by_cause c.args.cause.now o)) _ (λ x b g k. search rules) _ _ c.retain.ensures.filtered
