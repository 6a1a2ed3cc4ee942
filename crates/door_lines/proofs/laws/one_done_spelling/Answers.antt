use Rattle.door_lines.proofs.AskedLaws.{done_is}
use Rattle.door_lines.proofs.laws.one_done_spelling.Goals as goal

pub returns : goal.returns
returns c = done_is
