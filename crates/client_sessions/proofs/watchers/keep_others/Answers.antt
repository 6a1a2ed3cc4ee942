use Rattle.std.proofs.Common.{rules}
use Rattle.std.specs.Prelude.{not}
use Rattle.std.proofs.lemmas.Fn.{filter_same}
use Rattle.client_sessions.specs.Watching.{is_by}
use Rattle.client_sessions.proofs.watchers.keep_others.Goals as goal

pub returns-clause-kept : goal.returns-clause-kept
returns-clause-kept c = filter_same _ (λ w. not (is_by c.args.client w)) _ (λ x b g k. search rules) _ _ c.retain.ensures.filtered
