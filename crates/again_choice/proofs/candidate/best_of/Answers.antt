use Rattle.std.proofs.Common.{◌<◌, IfSome, sym, subst}
use Rattle.ring_points.specs.Limits.{most_counter}
use Rattle.again_choice.specs.declared.candidate.Candidate.{Candidate}
use Rattle.again_choice.proofs.Bests.{left}
use Rattle.again_choice.proofs.candidate.best_of.Goals as goal

-- the result is the best of the folders, and that has a number left
pub returns-clause-left : goal.returns-clause-left
returns-clause-left c =
    subst (λ best. IfSome best (λ (b : Candidate). b.last < most_counter)) (sym c.best_in.ensures) (left c.args.folders.now)
