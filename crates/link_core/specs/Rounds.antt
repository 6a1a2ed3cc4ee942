-- How a slot claims a round about its peer, and what an arbitrator's answer makes of it.
use Rattle.std.specs.Prelude.{ℕ, zero, suc, ◌-◌, Bool, true, false, List, [], ◌∷◌, ◌++◌, Some, None, nat_lt}
use Rattle.ring_points.specs.declared.who.Who.{Who}
use Rattle.ring_points.specs.Whos.{node_instance, arbiter_actor}
use Rattle.fabric_terms.specs.declared.message.Body.{Body}
use Rattle.fabric_terms.specs.declared.message.Body.TheVariants as body
use Rattle.drift_clock.specs.declared.bound.Bound.{Bound}
use Rattle.heir_rounds.specs.declared.verdict.RoundVerdict.{RoundVerdict}
use Rattle.heir_rounds.specs.declared.verdict.RoundVerdict.TheVariants as verdict
use Rattle.heir_rounds.specs.Rounds.{round_noted, round_verdict}
use Rattle.ring_rules.specs.declared.link.Link.{Link}
use Rattle.ring_rules.specs.declared.link.LinkState.{LinkState}
use Rattle.ring_rules.specs.declared.link.LinkState.TheVariants as state
use Rattle.ring_rules.specs.Claims.{owes_round}
use Rattle.ring_rules.specs.Slots.{slot_where, of_instance}
use Rattle.link_core.specs.Links.{Links, Turn, Did, SlotRow, turn, stays, same, in_found}
use Rattle.link_core.specs.Rulings.{ripe_at, becomes_heir}

-- An arbitrator that has ruled, and has not answered in this round, is asked whom it keeps.
abbrev pub claimed_if : ℕ → Link → Bool → List (Who × Body)
claimed_if a l false = []
claimed_if a l true = (node_instance (arbiter_actor a) 0, body.Claim l.peer l.rounds.round) ∷ []

-- the claims at the first k arbitrators, in their order
unfoldable pub claimed_first : ℕ → Link → List (Who × Body)
claimed_first zero l = []
claimed_first (suc k) l = claimed_first k l ++ claimed_if (suc k) l (owes_round (suc k) l)

abbrev pub claims_if : ℕ → Link → Bool → List (Who × Body)
claims_if n l false = []
claims_if n l true = claimed_first n l

-- the claims at n arbitrators, where there are rounds after the first
abbrev pub claims : ℕ → ℕ → Link → List (Who × Body)
claims rounds n l = claims_if n l (nat_lt 1 rounds)

-- by the verdict: the heir waits, the next round is claimed, or the slot ends
abbrev pub round_judged : ℕ → ℕ → Link → ℕ → RoundVerdict → Turn
round_judged rounds n l ripe verdict.Won = becomes_heir l ripe
round_judged rounds n l ripe (verdict.Next r) = turn (Some l) (claims rounds n l) []
round_judged rounds n l ripe verdict.Over = stays None
round_judged rounds n l ripe verdict.Open = stays (Some l)

abbrev pub is_discharged : LinkState → Bool
is_discharged state.Discharged = true
is_discharged _ = false

abbrev pub kept_if : ℕ → ℕ → ℕ → ℕ → ℕ → Who → Link → Bool → Turn
kept_if rounds n ripe arbiter round claimer l true =
    round_judged rounds n (record l { rounds = round_noted l.rounds round arbiter claimer }) ripe (round_verdict l.rounds round arbiter claimer)
kept_if rounds n ripe arbiter round claimer l false = stays (Some l)

abbrev pub kept_seen : ℕ → Bound → ℕ → ℕ → ℕ → ℕ → ℕ → Who → SlotRow
kept_seen now bound answer rounds n arbiter round claimer None = stays None
kept_seen now bound answer rounds n arbiter round claimer (Some l) =
    kept_if rounds n (ripe_at now bound answer l) arbiter round claimer l (is_discharged l.state)

abbrev pub kept_where : ℕ → ℕ → Who → ℕ → Who → Links → Bool → Did
kept_where now arbiter victim round claimer k false = same k
kept_where now arbiter victim round claimer k true =
    in_found (λ i. kept_seen now k.bound k.answer k.rounds k.arbitrators arbiter round claimer) (same k) k (slot_where (of_instance victim) k.slots)

-- an answer of this arbitrator about a round of the victim
abbrev pub kept_received : ℕ → Who → Who → ℕ → Who → Links → Did
kept_received now from victim round claimer k = kept_where now (from.actor - arbiter_actor 0) victim round claimer k (nat_lt 1 k.rounds)
