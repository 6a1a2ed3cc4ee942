use Rattle.serve_lives.proofs.Reading.{read_fresh}
use Rattle.serve_lives.proofs.read_steward.ReadSteward.new.Goals as goal

pub invariant_of-result : goal.invariant_of-result
invariant_of-result c = rw c.in_ok-steward.ensures (read_fresh _ _ _ c.requires.config c.requires.settings)
