use Rattle.failover_units.proofs.Rising.{noting, seeing, creating}
use Rattle.failover_units.proofs.laws.what_is_known_only_rises.Goals as goal

pub returns-clause-noting : goal.returns-clause-noting
returns-clause-noting c = noting

pub returns-clause-seeing : goal.returns-clause-seeing
returns-clause-seeing c = seeing

pub returns-clause-creating : goal.returns-clause-creating
returns-clause-creating c = creating
