use Rattle.epoch_refinement.proofs.Kept.{fit_lem}
use Rattle.epoch_refinement.proofs.laws.who_shows_is_fit.Goals as goal

pub returns : goal.returns
returns c = fit_lem
