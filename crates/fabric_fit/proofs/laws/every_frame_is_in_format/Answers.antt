use Rattle.fabric_fit.proofs.Units.{units_in_format}
use Rattle.fabric_fit.proofs.laws.every_frame_is_in_format.Goals as goal

pub returns : goal.returns
returns c = units_in_format
