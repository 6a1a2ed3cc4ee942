use Rattle.line_format.proofs.NameLaws.{name_is}
use Rattle.line_format.proofs.laws.names_are_their_bytes.Goals as goal

pub returns : goal.returns
returns c = name_is
