use Rattle.std.proofs.Common.{◌^◌, arith}
use Rattle.std.proofs.lemmas.Bool.{cases_lt}
use Rattle.ring_points.proofs.OneList.{one_list}
use Rattle.ring_points.proofs.Rising.{in_ranges-ring}
use Rattle.ring_points.proofs.laws.a_set_has_one_list.Goals as goal

pub returns : goal.returns
returns c = λ is js h k same.
    one_list 0 0 is js h k
    (λ p. let cases = cases_lt p (2 ^ 64) in let e = same p in let i = in_ranges-ring 0 p is h in let j = in_ranges-ring 0 p js k in grind arith)
