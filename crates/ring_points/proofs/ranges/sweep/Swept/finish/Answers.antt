use Rattle.std.proofs.Common.{IsTrue, arith}
use Rattle.std.proofs.lemmas.Bool.{and_from}
use Rattle.std.proofs.lemmas.Bool.Decides.{nat_tests}
use Rattle.ring_points.specs.Ranges.{fits}
use Rattle.ring_points.proofs.Swept.{refused, answer_by_error, finished}
use Rattle.ring_points.proofs.ranges.sweep.Swept.finish.Goals as goal

pub returns-in_err-close : goal.returns-in_err-close
returns-in_err-close c = λ keep s.
    answer_by_error keep _ c.from_residual.ensures.0 (λ e. refused keep c.args.self _ e s c.in_err-close.ensures.err c.in_err-close.ensures.too_many)

pub invariant_of-result : goal.invariant_of-result
invariant_of-result c =
    let few : IsTrue (fits c.close.new.self.intervals.items) = grind (arith, nat_tests) in
    and_from _ _ few (rw c.in_ok-close.ensures.ok c.requires)

pub returns : goal.returns
returns c = λ keep s. finished keep c.args.self c.close.new.self c.in_ok-close.ensures.ok c.in_ok-close.ensures.fits s
