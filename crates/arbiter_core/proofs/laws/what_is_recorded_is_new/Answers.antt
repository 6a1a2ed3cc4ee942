use Rattle.arbiter_core.proofs.Rounds.{claim_once}
use Rattle.arbiter_core.proofs.Rulings.{accusation_once}
use Rattle.arbiter_core.proofs.laws.what_is_recorded_is_new.Goals as goal

pub returns : goal.returns
returns c = λ table. record { accusation = accusation_once table; claim = claim_once table }
