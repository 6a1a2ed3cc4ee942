-- How a link is bound: an Offer is heard, and a Take.
use Rattle.std.proofs.Common.{◌≡◌, ℕ, ◌==◌, ◌&&◌, true, [], ◌∷◌, Option, Some, None, refl, sym, ap, ◌∙◌, subst, inl}
use Rattle.std.proofs.lemmas.Bool.{eqb-true, eq-eqb, and_parts, and_from, both_ways}
use Rattle.ring_points.specs.declared.who.Who.{Who}
use Rattle.fabric_terms.specs.declared.config.FabricConfig.{FabricConfig}
use Rattle.join_phases.specs.Phases.{bound_phase}
use Rattle.fabric_terms.specs.declared.message.Body.TheVariants as body
use Rattle.ring_rules.specs.declared.link.Link.{Link}
use Rattle.ring_rules.specs.declared.link.LinkState.{LinkState}
use Rattle.ring_rules.specs.declared.link.LinkState.TheVariants as state
use Rattle.ring_rules.specs.Links.{bound_link}
use Rattle.ring_rules.specs.Rings.{Work}
use Rattle.ring_rules.specs.Slots.{slot_at, slot_where, is_hello, bars_link, greets_node_by}
use Rattle.ring_rules.specs.Deeds.{put_slot, answer_unknown}
use Rattle.ring_rules.specs.Handshakes.{offer_taken, offer_repeated, offer_seen, offer_received, take_seen, take_received}
use Rattle.ring_rules.proofs.Rows.{offer_received-is, take_received-is}
use Rattle.fabric_lemmas.specs.Members.{IsMember}
use Rattle.ring_machine.specs.Ends.{End, end_of}
use Rattle.ring_machine.specs.Slots.{Slot, Asking, is_active, is_used}
use Rattle.ring_machine.specs.Frames.{Offer, Take}
use Rattle.ring_machine.specs.World.{World, slot}
use Rattle.ring_machine.specs.Deeds.{OfferTaken, TakeHeard}
use Rattle.ring_machine.specs.Events.{IsSound}
use Rattle.ring_machine.specs.Sessions.{BothTied}
use Rattle.ring_machine.specs.SoundFrames.{SoundOffer}
use Rattle.ring_machine.specs.SoundSlots.{AsksFor}
use Rattle.ring_machine.proofs.Askers.{to_asker}
use Rattle.ring_refinement.specs.Images.{machine_of, state_of}
use Rattle.ring_refinement.specs.Tables.{is_wronged}
use Rattle.ring_refinement.proofs.Places.{found_at, none_at, set_same, used_within}
use Rattle.ring_refinement.proofs.Changes.{stays_alone}
use Rattle.ring_refinement.proofs.Going.{Going}
use Rattle.ring_refinement.proofs.SlotRows.{one_said, bound_stays, nothing_besides, puts, wronged, alone_of, in_its_session}
use Rattle.ring_refinement.proofs.Saying.{tied_used, tied_asks, phase_going, take_again_going, gone_again_going, renew_going}
use Rattle.ring_refinement.proofs.Unknown.{hello_is, asking_held, unknown_going}

module _ {c : FabricConfig} {m : World} {x : Who} {now : ℕ} {w : Work} (sound : IsSound (machine_of c)) (g : Going c m x now w) where
  abbrev v : World
  v = g.after

  -- the greeting of this number takes the Offer
  taken : (from : Who) (theirs len i : ℕ) (l : Link) → slot_at i w.ring.slots ≡ Some l → l.state ≡ state.Hello → l.peer.actor ≡ from.actor →
      (IsMember from w.ring.accused → ⊥) → IsMember (Offer (end_of from theirs) (end_of x l.mine) len) v.sent →
      Going c m x now (offer_taken now from theirs len i (Some l) w)
  taken from theirs len i l at is actor trusted came =
      puts sound g i l at (OfferTaken (end_of from theirs) len) (ap state_of is, came, alone_of sound g from no_session) k
      (Take (end_of x l.mine) (end_of from theirs) ∷ []) refl refl
      (let s = g.shows.slots.sound i l at in record { held = s.held; part = s.part; length = λ p. absurd (cc (p)); tally = λ h. absurd (cc (h)); rounds = λ h. absurd (cc (h)) })
      (stays_alone g.shows.slots i l k at (sym actor) (λ h. absurd (cc (h))) (λ h. ap bars_link is)) (λ h. refl) (λ h. absurd (cc (h))) _ _ _
      (one_said sound g (Take (end_of x l.mine) (end_of from theirs)) from (body.Take l.mine theirs) (record { image = inl refl; rises = refl; no_ruling = refl })
      (bound_phase w.ring.phase) (bound_stays w.ring.phase g.stays))
    where
      k : Link
      k = bound_link now l from theirs len

      -- another open session with the instance would bar the greeting, or is with one that was accused
      no_session : (j : ℕ) (o : Link) → slot_at j w.ring.slots ≡ Some o → is_active (state_of o.state) ≡ true → o.peer ≡ from → ⊥
      no_session j o b active far = by_state o.state refl
        where
          barring : bars_link o.state ≡ true → ⊥
          barring bars =
              let same : i ≡ j = g.shows.slots.alone i j l o at b (ap is_hello is) bars (actor ∙ sym (ap (λ (y : Who). y.actor) far)) in
              let there : slot_at i w.ring.slots ≡ Some o = subst (λ (j : ℕ). slot_at j w.ring.slots ≡ Some o) (sym same) b in
              let one : o ≡ l = cc (there, at) in
              let greets : o.state ≡ state.Hello = ap (λ (z : Link). z.state) one ∙ is in
              cc (active, greets)

          listed : is_wronged (state_of o.state) ≡ true → ⊥
          listed h = trusted (subst (λ (y : Who). IsMember y w.ring.accused) far (wronged sound g j o b h))

          by_state : (s : LinkState) → o.state ≡ s → ⊥
          by_state state.Hello e = cc (active, e)
          by_state state.Offered e = barring (ap bars_link e)
          by_state state.Bound e = barring (ap bars_link e)
          by_state state.Parting e = barring (ap bars_link e)
          by_state state.Accused e = barring (ap bars_link e)
          by_state state.Discharged e = listed (ap (λ s. is_wronged (state_of s)) e)
          by_state state.Heir e = listed (ap (λ s. is_wronged (state_of s)) e)

  pub offer_going : (from : Who) (theirs own len : ℕ) → (IsMember from w.ring.accused → ⊥) → IsMember (Offer (end_of from theirs) (end_of x own) len) m.sent →
      Going c m x now (offer_received now from theirs own len w)
  offer_going from theirs own len trusted was =
      subst (λ (u : Work). Going c m x now u) (sym (offer_received-is now from theirs own len w))
      (go (slot_where (greets_node_by from.actor own) w.ring.slots) refl)
    where
      came : IsMember (Offer (end_of from theirs) (end_of x own) len) v.sent
      came = g.beside.sent _ was

      offer : SoundOffer v (end_of from theirs) (end_of x own) len
      offer = g.inv.frames _ came

      far_used : is_used (slot v (slot v (end_of from theirs)).far).state ≡ true
      far_used = (g.inv.slots (end_of from theirs)).far_used offer.tied.engaged

      used : is_used (slot v (end_of x own)).state ≡ true
      used = subst (λ (e : End). is_used (slot v e).state ≡ true) offer.tied.far far_used

      -- it would be the greeting that is found
      asks : slot_where (greets_node_by from.actor own) w.ring.slots ≡ None → (slot v (end_of x own)).state ≡ Asking → ⊥
      asks none a =
          let e = asking_held g own a in
          let asked : AsksFor (slot v (end_of x own)) from.actor len =
          to_asker g.inv (Offer (end_of from theirs) (end_of x own) len) came (end_of from theirs) (end_of x own) refl a in
          let node : e.link.peer.actor ≡ from.actor = sym (ap (λ (s : Slot). s.far.who.actor) e.kept) ∙ asked.node_is in
          both_ways _ (none_at (greets_node_by from.actor own) w.ring.slots none e.place e.link e.at)
          (and_from (e.link.peer.actor == from.actor && e.link.mine == own) (is_hello e.link.state)
          (and_from (e.link.peer.actor == from.actor) (e.link.mine == own) (eq-eqb e.link.peer.actor from.actor node) (eq-eqb e.link.mine own e.numbered))
          (ap is_hello e.greets))

      known : (i : ℕ) (l : Link) → slot_at i w.ring.slots ≡ Some l → IsMember (Offer (end_of l.peer l.yours) (end_of x l.mine) len) v.sent →
          (s : LinkState) → l.state ≡ s → Going c m x now (offer_repeated i l s w)
      known i l at h state.Bound is = take_again_going sound g i l at is
      known i l at h state.Parting is = gone_again_going sound g i l at is
      known i l at h s is = g

      go : (o : Option ℕ) → slot_where (greets_node_by from.actor own) w.ring.slots ≡ o → Going c m x now (offer_seen now from theirs own len w o)
      go (Some i) e = let f = found_at (greets_node_by from.actor own) w.ring.slots i e in there (slot_at i w.ring.slots) refl f.passes
        where
          there : (o : Option Link) → slot_at i w.ring.slots ≡ o → greets_node_by from.actor own o ≡ true → Going c m x now (offer_taken now from theirs len i o w)
          there None at t = g
          there (Some l) at t =
              let a = and_parts (l.peer.actor == from.actor && l.mine == own) (is_hello l.state) t in
              let b = and_parts (l.peer.actor == from.actor) (l.mine == own) a.0 in
              let n : l.mine ≡ own = eqb-true l.mine own b.1 in
              taken from theirs len i l at (hello_is l.state a.1) (eqb-true l.peer.actor from.actor b.0) trusted
              (subst (λ (n : ℕ). IsMember (Offer (end_of from theirs) (end_of x n) len) v.sent) (sym n) came)
      go None e =
          in_its_session sound g from theirs own offer_repeated (answer_unknown from theirs own) (λ f e. IsMember (Offer f e len) v.sent) came known
          (λ none. unknown_going sound g from theirs own (Offer (end_of from theirs) (end_of x own) len) came refl used (asks e) trusted none)

  pub take_going : (from : Who) (theirs own : ℕ) → (IsMember from w.ring.accused → ⊥) → IsMember (Take (end_of from theirs) (end_of x own)) m.sent →
      Going c m x now (take_received now from theirs own w)
  take_going from theirs own trusted was =
      subst (λ (u : Work). Going c m x now u) (sym (take_received-is now from theirs own w))
      (in_its_session sound g from theirs own (take_seen now) (answer_unknown from theirs own) (λ f e. IsMember (Take f e) v.sent) came known
      (λ none. unknown_going sound g from theirs own (Take (end_of from theirs) (end_of x own)) came refl
      (tied_used v (end_of x own) (end_of from theirs) tied.theirs) (tied_asks v (end_of x own) (end_of from theirs) tied.theirs) trusted none))
    where
      came : IsMember (Take (end_of from theirs) (end_of x own)) v.sent
      came = g.beside.sent _ was

      tied : BothTied v (end_of from theirs) (end_of x own)
      tied = g.inv.frames _ came

      known : (i : ℕ) (l : Link) → slot_at i w.ring.slots ≡ Some l → IsMember (Take (end_of l.peer l.yours) (end_of x l.mine)) v.sent →
          (s : LinkState) → l.state ≡ s → Going c m x now (take_seen now i l s w)
      known i l at h state.Offered is =
          let bound : Going c m x now (put_slot i k w) =
          puts sound g i l at TakeHeard (ap state_of is, h) k [] refl refl
          (let s = g.shows.slots.sound i l at in record { held = s.held; part = s.part; length = λ p. absurd (cc (p)); tally = λ h. absurd (cc (h)); rounds = λ h. absurd (cc (h)) })
          (stays_alone g.shows.slots i l k at refl (λ h. absurd (cc (h))) (λ h. ap bars_link is)) (λ h. refl) (λ h. absurd (cc (h))) _ _ _
          (nothing_besides sound g []) in
          let renewed = renew_going sound bound i k (set_same w.ring.slots i (Some k) (used_within w.ring.slots i l at)) refl in
          phase_going sound renewed bound_phase (bound_stays w.ring.phase g.stays)
        where
          k : Link
          k = record l { state = state.Bound }
      known i l at h state.Parting is = gone_again_going sound g i l at is
      known i l at h s is = g
