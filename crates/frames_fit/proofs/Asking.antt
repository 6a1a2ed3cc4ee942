-- What a node asks the arbitrators about a peer that it accused is in the format: the ruling, and whom they keep of a round.
use Rattle.std.proofs.Common.{◌≡◌, ℕ, zero, suc, ◌≤◌, Bool, true, false, IsTrue, refl, subst, arith}
use Rattle.arbiter_quorum.specs.Tallies.{has_answered}
use Rattle.fabric_terms.specs.declared.config.FabricConfig.{FabricConfig}
use Rattle.fabric_terms.specs.declared.message.Body.TheVariants as body
use Rattle.ring_points.specs.declared.who.Who.{Who}
use Rattle.ring_points.specs.Whos.{arbiter_actor, node_instance}
use Rattle.ring_rules.specs.declared.link.Link.{Link}
use Rattle.ring_rules.specs.Claims.{claim_first, claim_if, claim_round, claim_where, owes_round}
use Rattle.ring_rules.specs.Firing.{ask_arbiters, ask_first, ask_if}
use Rattle.ring_rules.specs.Rings.{Settings, Work}
use Rattle.ring_rules.specs.Rulings.{has_rounds}
use Rattle.ring_rules.specs.Slots.{is_hello}
use Rattle.fabric_terms.specs.Fields.{is_addressee}
use Rattle.frames_fit.specs.InRange.{IsInRange, LinkInRange}
use Rattle.frames_fit.proofs.Facts.{accuse_format, arbiter_addressed, claim_format}
use Rattle.frames_fit.proofs.Going.{Going, sends}
use Rattle.frames_fit.proofs.Saying.{SettingsInRange, in_session_of}

-- The ring stays.

pub asked_ring : (k : ℕ) (l : Link) (w : Work) → (ask_first k l w).ring ≡ w.ring
asked_ring zero l w = refl
asked_ring (suc k) l w = asked (has_answered (suc k) l.tally.answers) (asked_ring k l w)
  where
    asked : (b : Bool) → (ask_first k l w).ring ≡ w.ring → (ask_if (suc k) l (ask_first k l w) b).ring ≡ w.ring
    asked true e = e
    asked false e = e

claimed_ring : (k : ℕ) (l : Link) (w : Work) → (claim_first k l w).ring ≡ w.ring
claimed_ring zero l w = refl
claimed_ring (suc k) l w = claimed (owes_round (suc k) l) (claimed_ring k l w)
  where
    claimed : (b : Bool) → (claim_first k l w).ring ≡ w.ring → (claim_if (suc k) l (claim_first k l w) b).ring ≡ w.ring
    claimed true e = e
    claimed false e = e

-- The link of the peer is in range, and does not greet.
module _ (c : FabricConfig) (set : Settings) (fine : SettingsInRange set) (l : Link) (met : is_hello l.state ≡ false) where
  abbrev to : ℕ → Who
  to k = node_instance (arbiter_actor k) 0

  named : (k : ℕ) → suc k ≤ 9 → IsTrue (is_addressee (to (suc k)))
  named k few = arbiter_addressed (suc k) (omega arith) few

  module _ (w : Work) (link : IsInRange c w.ring → LinkInRange l) (a : Going c w) where
    asks_first : (k : ℕ) → k ≤ 9 → Going c (ask_first k l w)
    asks_first zero few = a
    asks_first (suc k) few = asked (has_answered (suc k) l.tally.answers) (asks_first k (omega arith))
      where
        asked : (b : Bool) → Going c (ask_first k l w) → Going c (ask_if (suc k) l (ask_first k l w) b)
        asked true g = g
        asked false g = sends c (ask_first k l w) g (to (suc k)) (body.Accuse l.peer)
            (λ r. let m = link (subst (IsInRange c) (asked_ring k l w) r) in accuse_format (to (suc k)) (named k few) l.peer (in_session_of l m met).peer)

    claims_first : (k : ℕ) → k ≤ 9 → Going c (claim_first k l w)
    claims_first zero few = a
    claims_first (suc k) few = claimed (owes_round (suc k) l) (claims_first k (omega arith))
      where
        claimed : (b : Bool) → Going c (claim_first k l w) → Going c (claim_if (suc k) l (claim_first k l w) b)
        claimed false g = g
        claimed true g = sends c (claim_first k l w) g (to (suc k)) (body.Claim l.peer l.rounds.round)
            (λ r. let m = link (subst (IsInRange c) (claimed_ring k l w) r) in
            claim_format (to (suc k)) (named k few) l.peer l.rounds.round (in_session_of l m met).peer m.rounds.round)

    pub asks : Going c (ask_arbiters set l w)
    asks = asks_first set.arbitrators fine.arbitrators

    pub claims : Going c (claim_round set l w)
    claims = where_rounds (has_rounds set)
      where
        where_rounds : (b : Bool) → Going c (claim_where set l w b)
        where_rounds false = a
        where_rounds true = claims_first set.arbitrators fine.arbitrators
