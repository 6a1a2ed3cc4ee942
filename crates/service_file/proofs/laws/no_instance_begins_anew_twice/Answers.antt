use Rattle.service_file.proofs.Passing.{passed}
use Rattle.service_file.proofs.laws.no_instance_begins_anew_twice.Goals as goal

pub returns : goal.returns
returns c = passed
