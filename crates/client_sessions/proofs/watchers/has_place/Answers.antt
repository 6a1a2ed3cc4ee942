use Rattle.std.proofs.Common.{ap, not, sym, ◌∙◌}
use Rattle.std.specs.Prelude.{nat_lt}
use Rattle.std.proofs.lemmas.List.Sums.{length-filter}
use Rattle.client_sessions.specs.Watching.{is_by}
use Rattle.client_sessions.proofs.watchers.has_place.Goals as goal

pub returns : goal.returns
returns c = ap (λ n. nat_lt n 64) (c.count_others.ensures ∙ sym (length-filter (λ w. not (is_by c.args.client w)) c.args.watchers.now))
