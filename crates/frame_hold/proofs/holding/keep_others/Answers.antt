use Rattle.std.proofs.Common.{rules}
use Rattle.std.specs.Prelude.{not}
use Rattle.std.proofs.lemmas.Fn.{filter_same}
use Rattle.frame_hold.specs.Waits.{is_number}
use Rattle.frame_hold.proofs.holding.keep_others.Goals as goal

pub returns : goal.returns
returns c = filter_same _ (λ o. not (is_number c.args.number o)) _ (λ x b g k. search rules) _ _ c.retain.ensures.filtered
