use Rattle.ring_points.proofs.Cuts.{in_ranges-minus_of}
use Rattle.token_core.proofs.laws.a_gift_leaves_the_rest.Goals as goal

pub returns : goal.returns
returns c = λ t z h e. record {
  owned = (λ p. in_ranges-minus_of p 0 0 t.ranges z.part h.ranges (rw e at h.part));
  announced = rw e;
}
