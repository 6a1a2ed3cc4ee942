use Rattle.heir_rounds.proofs.Heirs.{one_winner, winner_is_heir}
use Rattle.heir_rounds.proofs.laws.one_tally_is_won_at_most.Goals as goal

pub returns-clause-heir : goal.returns-clause-heir
returns-clause-heir c = winner_is_heir

pub returns-clause-one : goal.returns-clause-one
returns-clause-one c = one_winner
