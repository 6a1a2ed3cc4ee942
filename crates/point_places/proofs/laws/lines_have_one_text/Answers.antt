use Rattle.point_places.proofs.OneText.{one_text}
use Rattle.point_places.proofs.laws.lines_have_one_text.Goals as goal

pub returns : goal.returns
returns c = one_text
