use Rattle.std.proofs.Common.{rules}
use Rattle.std.specs.Prelude.{not}
use Rattle.std.proofs.lemmas.Fn.{filter_same}
use Rattle.open_answers.specs.Answers.{is_of}
use Rattle.open_answers.proofs.open_answers.keep_others.Goals as goal

pub returns-clause-kept : goal.returns-clause-kept
returns-clause-kept c = filter_same _ (λ o. not (is_of c.args.client o)) _ (λ x b g k. search rules) _ _ c.retain.ensures.filtered
