use Rattle.std.proofs.Common.{arith}
use Rattle.std.proofs.lemmas.Bool.Decides.{nat_tests}
use Rattle.ring_points.proofs.laws.nearer_is_a_strict_total_order.Goals as goal

pub returns : goal.returns
returns c = λ p. record {
  irreflexive = λ a. grind (arith, nat_tests);
  transitive = (λ a b d h k. grind (arith, nat_tests));
  total = (λ a b n. grind (arith, nat_tests));
}
