use Rattle.frame_format.proofs.Lengths.{spelling_short}
use Rattle.frame_format.proofs.laws.short_spelling.Goals as goal

pub returns : goal.returns
returns c = spelling_short
