use Rattle.std.proofs.Common.{rules}
use Rattle.std.specs.Prelude.{not}
use Rattle.std.proofs.lemmas.Fn.{filter_same}
use Rattle.frame_hold.specs.Kept.{is_free}
use Rattle.frame_hold.proofs.held_frames.keep_others.Goals as goal

pub returns : goal.returns
returns c = filter_same _ (λ d. not (is_free c.args.actor c.args.holding.now d)) _ (λ x b g k. search rules) _ _ c.retain.ensures.filtered
