use Rattle.frames_fit.proofs.Valid.{frames_in_format}
use Rattle.frames_fit.proofs.laws.frames_are_in_format.Goals as goal

pub returns : goal.returns
returns g c = frames_in_format g.A.InFormat.upper g.A.InFormat.sends
