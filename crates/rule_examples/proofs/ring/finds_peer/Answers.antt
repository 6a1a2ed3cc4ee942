use Rattle.rule_examples.proofs.RingComputed.{finds_peer}
use Rattle.rule_examples.proofs.ring.finds_peer.Goals as goal

pub returns : goal.returns
returns c = finds_peer
