use Rattle.again_choice.proofs.Declareds.{same_list}
use Rattle.again_choice.proofs.line.same_partitions.Goals as goal

-- the test of two lists of partitions says whether they are the same
pub returns : goal.returns
returns c = same_list c.args.first.now c.args.second.now c.eq.result c.eq.ensures
