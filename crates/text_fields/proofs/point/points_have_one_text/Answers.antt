use Rattle.text_fields.proofs.PointLaws.{point_is}
use Rattle.text_fields.proofs.point.points_have_one_text.Goals as goal

pub returns : goal.returns
returns c = point_is
