use Rattle.serve_rules.proofs.Lives.{served_process}
use Rattle.serve_rules.proofs.laws.the_process_is_its_actor.Goals as goal

pub returns : goal.returns
returns c = served_process
