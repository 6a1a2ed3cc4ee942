-- How a discharged slot claims a round about its peer, and what the arbitrators' answers make of it.
use Rattle.std.specs.Prelude.{ℕ, zero, suc, ◌-◌, Bool, true, false, not, ◌&&◌}
use Rattle.ring_points.specs.declared.who.Who.{Who}
use Rattle.ring_points.specs.Whos.{node_instance, arbiter_actor}
use Rattle.fabric_terms.specs.declared.message.Body.TheVariants as body
use Rattle.arbiter_quorum.specs.Tallies.{has_answered}
use Rattle.heir_rounds.specs.declared.verdict.RoundVerdict.{RoundVerdict}
use Rattle.heir_rounds.specs.declared.verdict.RoundVerdict.TheVariants as verdict
use Rattle.heir_rounds.specs.Rounds.{round_noted, round_verdict}
use Rattle.ring_rules.specs.declared.link.Link.{Link}
use Rattle.ring_rules.specs.declared.link.LinkState.{LinkState}
use Rattle.ring_rules.specs.declared.link.LinkState.TheVariants as state
use Rattle.ring_rules.specs.Rings.{Settings, Work, ◌▷◌}
use Rattle.ring_rules.specs.Slots.{slot_where, of_instance}
use Rattle.ring_rules.specs.Deeds.{put_slot, drop_slot, send, in_found}
use Rattle.ring_rules.specs.Rulings.{has_rounds, becomes_heir}

-- An arbitrator that has ruled, and has not answered in this round, is asked whom it keeps.

abbrev pub claim_if : ℕ → Link → Work → Bool → Work
claim_if a l w false = w
claim_if a l w true = send (node_instance (arbiter_actor a) 0) (body.Claim l.peer l.rounds.round) w

abbrev pub owes_round : ℕ → Link → Bool
owes_round a l = has_answered a l.tally.answers && not (has_answered a l.rounds.answers)

-- the first k arbitrators, in their order
abbrev pub claim_first : ℕ → Link → Work → Work
claim_first zero l w = w
claim_first (suc k) l w = claim_if (suc k) l (claim_first k l w) (owes_round (suc k) l)

abbrev pub claim_where : Settings → Link → Work → Bool → Work
claim_where c l w false = w
claim_where c l w true = claim_first c.arbitrators l w

abbrev pub claim_round : Settings → Link → Work → Work
claim_round c l w = claim_where c l w (has_rounds c)

-- Whom an arbitrator keeps is noted. The slot's node is heir then, or claims the next round, or the slot ends.

abbrev pub round_judged : Settings → ℕ → ℕ → Link → RoundVerdict → Work → Work
round_judged c now i l verdict.Won w = becomes_heir c now i l w
round_judged c now i l (verdict.Next r) w = w ▷ put_slot i l ▷ claim_round c l
round_judged c now i l verdict.Over w = drop_slot i w
round_judged c now i l verdict.Open w = put_slot i l w

abbrev pub round_noted_in : Settings → ℕ → ℕ → ℕ → Who → ℕ → Link → Work → Work
round_noted_in c now a round claimer i l w =
    round_judged c now i (record l { rounds = round_noted l.rounds round a claimer }) (round_verdict l.rounds round a claimer) w

abbrev pub kept_seen : Settings → ℕ → ℕ → ℕ → Who → ℕ → Link → LinkState → Work → Work
kept_seen c now a round claimer i l state.Discharged w = round_noted_in c now a round claimer i l w
kept_seen c now a round claimer i l _ w = w

abbrev pub kept_where : Settings → ℕ → ℕ → Who → ℕ → Who → Work → Bool → Work
kept_where c now a victim round claimer w false = w
kept_where c now a victim round claimer w true = in_found (kept_seen c now a round claimer) (λ v. v) (slot_where (of_instance victim) w.ring.slots) w

-- an answer of this arbitrator about a round of the victim
unfoldable pub kept_received : Settings → ℕ → Who → Who → ℕ → Who → Work → Work
kept_received c now from victim round claimer w = kept_where c now (from.actor - arbiter_actor 0) victim round claimer w (has_rounds c)
