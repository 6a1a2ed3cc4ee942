-- The entries of the tables as accusations and as claims.
use Rattle.std.specs.Prelude.{List, [], ◌∷◌, ℕ}
use Rattle.ring_points.specs.declared.who.Who.{Who}
use Rattle.ring_rules.specs.Arbiters.{Accusations, RoundClaims}
use Rattle.arbiter_tables.specs.declared.accused.Accused.{Accused}
use Rattle.arbiter_tables.specs.declared.round.Round.{Round}

abbrev pub key_of : Who → Accused
key_of w = record { actor = w.actor; instance = w.instance }

abbrev pub who_of : Accused → Who
who_of k = record { actor = k.actor; instance = k.instance }

-- each accused instance with its first accuser, in the order of the table
abbrev pub accusations_of : List (Accused × Who) → Accusations
accusations_of [] = []
accusations_of (e ∷ es) = (who_of e.0, e.1) ∷ accusations_of es

abbrev pub round_of : Who → ℕ → Round
round_of victim round = record { actor = victim.actor; instance = victim.instance; round = round }

abbrev pub victim_of : Round → Who
victim_of k = record { actor = k.actor; instance = k.instance }

-- each round about a victim with its first claimer, in the order of the table
abbrev pub claims_of : List (Round × Who) → RoundClaims
claims_of [] = []
claims_of (e ∷ es) = (victim_of e.0, e.0.round, e.1) ∷ claims_of es
