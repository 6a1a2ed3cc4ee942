use Rattle.span_safety.proofs.Example.{shorter_links}
use Rattle.span_safety.proofs.laws.a_shorter_link_lets_the_fence_fall.Goals as goal

pub returns : goal.returns
returns c = shorter_links
