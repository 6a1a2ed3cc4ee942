use Rattle.fabric_fit.proofs.Units.{units_tell_in_range}
use Rattle.fabric_fit.proofs.laws.every_report_is_in_range.Goals as goal

pub returns : goal.returns
returns c = units_tell_in_range
