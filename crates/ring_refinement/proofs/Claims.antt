-- Claims of rounds: how a discharged slot makes them, and what the answers make of it.
use Rattle.std.proofs.Common.{◌≡◌, ℕ, zero, suc, ◌-◌, ◌<◌, ◌≤◌, Bool, true, false, List, [], ◌∷◌, ◌++◌, length, Option, Some, None, refl, sym, ap, ◌∙◌, subst, inl, arith}
use Rattle.std.proofs.lemmas.List.{append-nil, append_assoc}
use Rattle.ring_points.specs.declared.who.Who.{Who}
use Rattle.ring_points.specs.Whos.{node_instance, arbiter_actor}
use Rattle.fabric_terms.specs.declared.config.FabricConfig.{FabricConfig}
use Rattle.fabric_terms.specs.declared.message.Body.{Body}
use Rattle.fabric_terms.specs.declared.message.Body.TheVariants as body
use Rattle.heir_rounds.specs.Rounds.{RoundTally, round_counted, gone_on, round_verdict_of}
use Rattle.heir_rounds.specs.declared.verdict.RoundVerdict.{RoundVerdict}
use Rattle.heir_rounds.specs.declared.verdict.RoundVerdict.TheVariants as verdict
use Rattle.ring_rules.specs.declared.link.Link.{Link}
use Rattle.ring_rules.specs.declared.link.LinkState.{LinkState}
use Rattle.ring_rules.specs.declared.link.LinkState.TheVariants as state
use Rattle.ring_rules.specs.Claims.{owes_round, claim_if, claim_first, claim_where, claim_round, round_judged, kept_seen, kept_where, kept_received}
use Rattle.ring_rules.specs.Deeds.{in_slot, in_found, put_slot, send}
use Rattle.ring_rules.specs.Rings.{Work, settings_of}
use Rattle.ring_rules.specs.Rulings.{has_rounds}
use Rattle.ring_rules.specs.Slots.{slot_at, slot_where, of_instance}
use Rattle.ring_rules.proofs.Rows.{kept_received-is}
use Rattle.fabric_lemmas.specs.Members.{IsMember}
use Rattle.ring_machine.specs.Ends.{end_of}
use Rattle.ring_machine.specs.Slots.{Slot, Discharged, HasClaim, is_tallying, is_decided}
use Rattle.ring_machine.specs.Frames.{Frame, Accuse, RoundClaim, Kept}
use Rattle.ring_machine.specs.World.{World}
use Rattle.ring_machine.specs.Arbitration.{AnsweredBy}
use Rattle.ring_machine.specs.Deeds.{AccuseAgain, RoundClaimed}
use Rattle.ring_machine.specs.Events.{IsSound}
use Rattle.ring_points.proofs.Whos.{same_who-true}
use Rattle.ring_refinement.specs.Images.{machine_of, state_of, points_of, flight_of, slot_of}
use Rattle.ring_refinement.specs.Tables.{is_wronged, SoundRounds}
use Rattle.ring_refinement.specs.Refined.{AllSaid}
use Rattle.ring_refinement.proofs.Places.{found_at, set_same, used_within}
use Rattle.ring_refinement.proofs.Changes.{stays_alone}
use Rattle.ring_refinement.proofs.Telling.{all_said_both}
use Rattle.ring_refinement.proofs.Going.{Going, says}
use Rattle.ring_refinement.proofs.SlotRows.{nothing_besides, puts, wronged}
use Rattle.ring_refinement.proofs.Rounds.{RoundRestsOn, round_rests, heir_by_round, round_gone_on, round_heard}
use Rattle.ring_refinement.proofs.Rulings.{discharged, dropped_going, becomes_going}

-- the arbitrators are asked whom they keep: all messages have one image
record Claimed (lease : ℕ) (sent : List Frame) (x : Who) (n : ℕ) (l : Link) (w : Work) : Type 0 where
  messages : List (Who × Body)
  is : claim_first n l w ≡ record w { sent = w.sent ++ messages }
  said : AllSaid lease sent x messages

-- one more, if it owes an answer
record ClaimedOf (lease : ℕ) (sent : List Frame) (x : Who) (n : ℕ) (l : Link) (w : Work) (q : Bool) : Type 0 where
  messages : List (Who × Body)
  is : claim_if (suc n) l (claim_first n l w) q ≡ record w { sent = w.sent ++ messages }
  said : AllSaid lease sent x messages

claimed : (lease : ℕ) (sent : List Frame) (x : Who) (l : Link) (w : Work) → IsMember (RoundClaim x l.peer l.rounds.round) sent → (n : ℕ) → Claimed lease sent x n l w
claimed lease sent x l w h zero = record { messages = []; is = (λ j. record w { sent = sym (append-nil w.sent) j }); said = tt }
claimed lease sent x l w h (suc n) =
    let a = one (owes_round (suc n) l) (claimed lease sent x l w h n) in
    record { messages = a.messages; is = a.is; said = a.said }
  where
    one : (q : Bool) → Claimed lease sent x n l w → ClaimedOf lease sent x n l w q
    one false a = record { messages = a.messages; is = a.is; said = a.said }
    one true a = record {
      messages = a.messages ++ (node_instance (arbiter_actor (suc n)) 0, body.Claim l.peer l.rounds.round) ∷ [];
      is = ap (λ (u : Work). send (node_instance (arbiter_actor (suc n)) 0) (body.Claim l.peer l.rounds.round) u) a.is ∙
          (λ j. record w { sent = append_assoc w.sent a.messages ((node_instance (arbiter_actor (suc n)) 0, body.Claim l.peer l.rounds.round) ∷ []) j });
      said = all_said_both lease sent x a.messages ((node_instance (arbiter_actor (suc n)) 0, body.Claim l.peer l.rounds.round) ∷ []) a.said
          (record { image = h; rises = refl; no_ruling = refl }, tt);
    }

tallies : (s : LinkState) → s ≡ state.Discharged → is_tallying (state_of s) ≡ true
tallies s is = ap (λ s. is_tallying (state_of s)) is

module _ {c : FabricConfig} {m : World} {x : Who} {now : ℕ} {w : Work} (sound : IsSound (machine_of c)) (node : ℕ) (g : Going c m x now w) where
  -- the present round is claimed
  pub claims_going : (i : ℕ) (l : Link) → slot_at i w.ring.slots ≡ Some l → l.state ≡ state.Discharged → Going c m x now (claim_round (settings_of c node) l w)
  claims_going i l at is = go (has_rounds (settings_of c node))
    where
      go : (q : Bool) → Going c m x now (claim_where (settings_of c node) l w q)
      go false = g
      go true =
          let a = claimed c.lease (RoundClaim x l.peer l.rounds.round ∷ g.after.sent) x l w (inl refl) (length c.arbiters) in
          let opened = ((g.shows.slots.sound i l at).rounds (tallies l.state is)).is_open in
          subst (λ (u : Work). Going c m x now u) (sym a.is)
          (says sound g i l at (RoundClaimed l.rounds.round) (tallies l.state is, opened) (RoundClaim x l.peer l.rounds.round ∷ []) refl a.messages a.said)

  -- a majority answered x about the peer of a discharged slot, and it has something to take over
  freed : (i : ℕ) (l : Link) → slot_at i w.ring.slots ≡ Some l → l.state ≡ state.Discharged →
      AnsweredBy (machine_of c) g.after.sent x l.peer × HasClaim (points_of l.held) (flight_of l.flight)
  freed i l at is =
      let kept : (g.after.instance x).slots l.mine ≡ slot_of l = g.shows.slots.kept i l at in
      subst (λ (s : Slot). s.state ≡ Discharged → AnsweredBy (machine_of c) g.after.sent x s.far.who × HasClaim s.held s.flight) kept
      (g.inv.slots (end_of x l.mine)).discharged (ap state_of is)

  -- another tally of the round takes the place of the one before
  put_going : (i : ℕ) (l : Link) → slot_at i w.ring.slots ≡ Some l → l.state ≡ state.Discharged → (u : RoundTally) →
      SoundRounds c x l.peer g.after.sent u → Going c m x now (put_slot i (record l { rounds = u }) w)
  put_going i l at is u u_sound =
      puts sound g i l at AccuseAgain (tallies l.state is) (record l { rounds = u }) (Accuse x l.peer ∷ []) refl refl
      (let o = g.shows.slots.sound i l at in record { held = o.held; part = o.part; length = o.length; tally = o.tally; rounds = λ h. u_sound })
      (stays_alone g.shows.slots i l (record l { rounds = u }) at refl (λ h. h) (λ h. h)) (λ h. h)
      (λ h. wronged sound g i l at (ap (λ s. is_wronged (state_of s)) is)) _ _ _ (nothing_besides sound g (Accuse x l.peer ∷ []))

module _ {c : FabricConfig} {m : World} {x : Who} {now : ℕ} {w : Work} (sound : IsSound (machine_of c)) (node : ℕ) (g : Going c m x now w) where
  -- the verdict on a round
  judged_going : (i : ℕ) (l : Link) → slot_at i w.ring.slots ≡ Some l → l.state ≡ state.Discharged → (t : RoundTally) →
      SoundRounds c x l.peer g.after.sent t → (u : RoundVerdict) → RoundRestsOn t u →
      Going c m x now (round_judged (settings_of c node) now i (record l { rounds = gone_on t u }) u w)
  judged_going i l at is t t_sound verdict.Won rests =
      let f = freed sound node g i l at is in
      becomes_going sound node g i l at (discharged is) l.tally t f.0 (heir_by_round t t_sound rests) f.1
  judged_going i l at is t t_sound verdict.Over rests =
      dropped_going sound node g i l at (ap (λ s. is_wronged (state_of s)) is) (inl (ap (λ s. is_decided (state_of s)) is))
  judged_going i l at is t t_sound verdict.Open rests = put_going sound node g i l at is t t_sound
  judged_going i l at is t t_sound (verdict.Next r) rests =
      let k : Link = record l { rounds = gone_on t (verdict.Next r) } in
      claims_going sound node (put_going sound node g i l at is (gone_on t (verdict.Next r)) (round_gone_on t t_sound (verdict.Next r) rests)) i
      (record l { rounds = gone_on t (verdict.Next r) })
      (set_same w.ring.slots i (Some k) (used_within w.ring.slots i l at)) is

  -- an answer of arbitrator a
  pub kept_received_going : (from victim : Who) (round : ℕ) (claimer : Who) → arbiter_actor 0 < from.actor → from.actor ≤ arbiter_actor (length c.arbiters) →
      IsMember (Kept (from.actor - arbiter_actor 0) victim round claimer) m.sent →
      Going c m x now (kept_received (settings_of c node) now from victim round claimer w)
  kept_received_going from victim round claimer least most came =
      subst (λ (u : Work). Going c m x now u) (sym (kept_received-is (settings_of c node) now from victim round claimer w)) (by (has_rounds (settings_of c node)))
    where
      a : ℕ
      a = from.actor - arbiter_actor 0

      seen : (i : ℕ) (l : Link) → slot_at i w.ring.slots ≡ Some l → l.peer ≡ victim → (s : LinkState) → l.state ≡ s →
          Going c m x now (kept_seen (settings_of c node) now (from.actor - arbiter_actor 0) round claimer i l s w)
      seen i l at peer state.Discharged is =
          judged_going i l at is (round_counted l.rounds round (from.actor - arbiter_actor 0) claimer)
          (round_heard l.rounds ((g.shows.slots.sound i l at).rounds (tallies l.state is)) round (from.actor - arbiter_actor 0) claimer (omega arith) (omega arith)
          (subst (λ (y : Who). IsMember (Kept (from.actor - arbiter_actor 0) y round claimer) g.after.sent) (sym peer) (g.beside.sent _ came)))
          (round_verdict_of (round_counted l.rounds round (from.actor - arbiter_actor 0) claimer))
          (round_rests (round_counted l.rounds round (from.actor - arbiter_actor 0) claimer))
      seen i l at peer s is = g

      there : (i : ℕ) (o : Option Link) → slot_at i w.ring.slots ≡ o → of_instance victim o ≡ true →
          Going c m x now (in_slot (kept_seen (settings_of c node) now (from.actor - arbiter_actor 0) round claimer) i o w)
      there i None at t = g
      there i (Some l) at t = seen i l at (same_who-true l.peer victim t) l.state refl

      go : (o : Option ℕ) → slot_where (of_instance victim) w.ring.slots ≡ o →
          Going c m x now (in_found (kept_seen (settings_of c node) now (from.actor - arbiter_actor 0) round claimer) (λ u. u) o w)
      go None e = g
      go (Some i) e = let f = found_at (of_instance victim) w.ring.slots i e in there i (slot_at i w.ring.slots) refl f.passes

      by : (q : Bool) → Going c m x now (kept_where (settings_of c node) now (from.actor - arbiter_actor 0) victim round claimer w q)
      by false = g
      by true = go (slot_where (of_instance victim) w.ring.slots) refl
