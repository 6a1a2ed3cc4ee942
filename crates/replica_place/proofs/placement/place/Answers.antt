use Rattle.std.proofs.Common.{arith, ◌∙◌}
use Rattle.replica_place.proofs.Placed.{all_placed}
use Rattle.replica_place.proofs.placement.place.Goals as goal

pub returns : goal.returns
returns c =
    all_placed c.args.nodes.now c.args.count c.loop-candidate.candidate-index c.deref.result.now c.loop-candidate.placed.items
    (c.deref.ensures.0 ∙ c.candidates-candidates.ensures.items) c.loop-candidate.invariant.so_far c.loop-candidate-test.false
    (omega (arith, c.candidates-candidates.ensures.many))
