use Rattle.serve_lives.proofs.Reading.{read_noted}
use Rattle.serve_lives.proofs.read_steward.ReadSteward.note.Goals as goal

pub invariant_of-self : goal.invariant_of-self
invariant_of-self c = rw c.note.ensures (read_noted c.args.input.now c.args.told.now c.self.inside.steward c.self.invariant)
