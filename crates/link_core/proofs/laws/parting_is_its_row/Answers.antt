use Rattle.link_core.proofs.PartTies.{part_tie}
use Rattle.link_core.proofs.laws.parting_is_its_row.Goals as goal

pub returns : goal.returns
returns c = part_tie
