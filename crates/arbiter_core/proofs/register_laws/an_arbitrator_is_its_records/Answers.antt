use Rattle.arbiter_core.proofs.Lives.{is_its_records}
use Rattle.arbiter_core.proofs.register_laws.an_arbitrator_is_its_records.Goals as goal

pub returns : goal.returns
returns c = is_its_records
