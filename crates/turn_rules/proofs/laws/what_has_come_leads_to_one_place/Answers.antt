use Rattle.turn_rules.proofs.OnePlace.{one_place, one_served_place}
use Rattle.turn_rules.proofs.laws.what_has_come_leads_to_one_place.Goals as goal

pub returns-clause-planned : goal.returns-clause-planned
returns-clause-planned c = one_place

pub returns-clause-served : goal.returns-clause-served
returns-clause-served c = one_served_place
