-- How a link begins: a node is greeted, and a Hello is heard.
use Rattle.std.proofs.Common.{◌≡◌, ℕ, ◌+◌, ◌<◌, ◌≤◌, ◌==◌, nat_lt, Bool, true, false, List, [], ◌∷◌, length, Option, Some, None, refl, sym, ap, ◌∙◌, subst, inl}
use Rattle.std.proofs.lemmas.Bool.{eqb-true, eq-eqb, and_parts, and_from, both_ways}
use Rattle.ring_points.specs.declared.who.Who.{Who}
use Rattle.ring_points.specs.Whos.{same_who}
use Rattle.fabric_terms.specs.declared.config.FabricConfig.{FabricConfig}
use Rattle.fabric_terms.specs.declared.report.Reason.{Reason}
use Rattle.fabric_terms.specs.declared.report.Reason.TheVariants as reason
use Rattle.ring_rules.specs.declared.link.Link.{Link}
use Rattle.ring_rules.specs.declared.link.LinkState.{LinkState}
use Rattle.ring_rules.specs.declared.link.LinkState.TheVariants as state
use Rattle.ring_rules.specs.Rings.{Work, settings_of}
use Rattle.ring_rules.specs.Slots.{slot_at, slot_where, is_free, is_hello, bars_link, of_instance, of_node}
use Rattle.ring_rules.specs.Links.{greeting_link, offered_link, hello_by, offer_by, offer_body}
use Rattle.ring_rules.specs.Deeds.{drop_slot, send}
use Rattle.ring_rules.specs.Handshakes.{greet, greet_unless, greet_free, greet_plainly, hello_accepted, accept_free, hello_crossed, hello_of_node, offer_same, offer_again, hello_repeated, hello_of_instance, hello_received}
use Rattle.fabric_lemmas.specs.Members.{IsMember}
use Rattle.ring_machine.specs.Ends.{end_of}
use Rattle.ring_machine.specs.Slots.{Abandoned}
use Rattle.ring_machine.specs.Tokens as machine
use Rattle.ring_machine.specs.Frames.{Frame, Hello, Offer}
use Rattle.ring_machine.specs.World.{World}
use Rattle.ring_machine.specs.Deeds.{HelloBegun, OfferBegun, HelloDropped, OfferAgain}
use Rattle.ring_machine.specs.Guards.{May}
use Rattle.ring_machine.specs.Effects.{outcome, hello_begun, offer_begun, stepped, done}
use Rattle.ring_machine.specs.Events.{IsSound}
use Rattle.ring_machine.proofs.DeedSteps.{DeedsDone, deed_done}
use Rattle.ring_points.proofs.Whos.{same_who-refl}
use Rattle.ring_rules.proofs.Rows.{hello_received-is}
use Rattle.ring_refinement.specs.Images.{machine_of, slot_of, token_of, state_of}
use Rattle.ring_refinement.specs.Tables.{is_proposing}
use Rattle.ring_refinement.specs.Refined.{Said}
use Rattle.ring_refinement.proofs.Places.{found_at, none_at, set_cases, used_within}
use Rattle.ring_refinement.proofs.Telling.{all_said_both}
use Rattle.ring_refinement.proofs.Going.{Going, says}
use Rattle.ring_refinement.proofs.Unknown.{hello_is}
use Rattle.ring_refinement.proofs.SlotRows.{begins, drops, alone_of, nothing_besides}

free_is : (o : Option Link) → is_free o ≡ true → o ≡ None
free_is None h = refl
free_is (Some l) h = absurd (cc (h))

hello_bars : (s : LinkState) → is_hello s ≡ true → bars_link s ≡ true
hello_bars state.Hello h = refl
hello_bars s h = absurd (cc (h))

-- what a greeting says is what the machine's frame has
pub hello_said : (lease : ℕ) (sent : List Frame) (x : Who) (l : Link) (q : Bool) → (q ≡ false → l.len ≡ lease) →
    IsMember (Hello (end_of x l.mine) l.peer.actor l.len) sent → Said lease sent x l.peer (hello_by q l)
hello_said lease sent x l true is h = record { image = h; rises = refl; no_ruling = refl }
hello_said lease sent x l false is h = record {
  image = subst (λ (n : ℕ). IsMember (Hello (end_of x l.mine) l.peer.actor n) sent) (is refl) h;
  rises = refl;
  no_ruling = refl;
}

pub offer_said : (lease : ℕ) (sent : List Frame) (x : Who) (l : Link) (q : Bool) → (q ≡ false → l.len ≡ lease) →
    IsMember (Offer (end_of x l.mine) (end_of l.peer l.yours) l.len) sent → Said lease sent x l.peer (offer_by q l)
offer_said lease sent x l true is h = record { image = h; rises = refl; no_ruling = refl }
offer_said lease sent x l false is h = record {
  image = subst (λ (n : ℕ). IsMember (Offer (end_of x l.mine) (end_of l.peer l.yours) n) sent) (is refl) h;
  rises = refl;
  no_ruling = refl;
}

module _ {c : FabricConfig} {m : World} {x : Who} {now : ℕ} {w : Work} (sound : IsSound (machine_of c)) (node : ℕ) (g : Going c m x now w) where
  abbrev v : World
  v = g.after

  abbrev tok : machine.Token
  tok = token_of w.ring.slots w.ring.token

  -- a greeting that no link with the node bars, in a free place
  greeted : (at_node wire len : ℕ) → (wire == 2 ≡ false → len ≡ c.lease) → (i : ℕ) → i < length w.ring.slots → slot_at i w.ring.slots ≡ None →
      slot_where (of_node bars_link at_node) w.ring.slots ≡ None → (refused : Reason → Work → Work) →
      Going c m x now (greet_free (greeting_link (settings_of c node) now w.ring at_node wire len) refused w (Some i))
  greeted at_node wire len length_is i lt free none refused =
      begins sound g i lt free k (Hello (end_of x w.ring.next_session) at_node len ∷ [])
      (subst (λ (z : World). DeedsDone (machine_of c) v x z) shown (deed_done sound g.inv x g.live (HelloBegun at_node len) tt))
      refl (record { held = refl; part = refl; length = λ p q. length_is q; tally = λ h. absurd (cc (h)); rounds = λ h. absurd (cc (h)) })
      (record {
        greets = λ h j l at b e. absurd (barred j l at b e);
        bars = λ h j l at b e. absurd (barred j l at (hello_bars l.state b) (sym e));
      }) refl _
      (λ h. all_said_both c.lease _ x w.sent _ h
      (hello_said c.lease (Hello (end_of x w.ring.next_session) at_node len ∷ v.sent) x k (wire == 2) length_is (inl refl), tt))
    where
      k : Link
      k = greeting_link (settings_of c node) now w.ring at_node wire len

      barred : (j : ℕ) (l : Link) → slot_at j w.ring.slots ≡ Some l → bars_link l.state ≡ true → at_node ≡ l.peer.actor → ⊥
      barred j l at b e =
          both_ways _ (none_at (of_node bars_link at_node) w.ring.slots none j l at)
          (and_from (l.peer.actor == at_node) (bars_link l.state) (eq-eqb l.peer.actor at_node (sym e)) b)

      shown : done (machine_of c) v x (HelloBegun at_node len) ≡
          stepped v (end_of x w.ring.next_session) (w.ring.next_session + 1)
          (outcome (slot_of k) tok (Hello (end_of x w.ring.next_session) at_node len ∷ []) v.place)
      shown = let read = g.reading in let next = g.shows.next in let token = g.shows.token in
          λ j. stepped v (end_of x (next j)) (next j + 1) (hello_begun (end_of x (next j)) (read j) (token j) v.place at_node len)

  pub greet_going : (at_node wire len : ℕ) → (wire == 2 ≡ false → len ≡ c.lease) → (refused : Reason → Work → Work) →
      ((r : Reason) → Going c m x now (refused r w)) → Going c m x now (greet (greeting_link (settings_of c node) now w.ring at_node wire len) refused w)
  greet_going at_node wire len length_is refused fails = go (slot_where (of_node bars_link at_node) w.ring.slots) refl
    where
      in_free : slot_where (of_node bars_link at_node) w.ring.slots ≡ None → (o : Option ℕ) → slot_where is_free w.ring.slots ≡ o →
          Going c m x now (greet_free (greeting_link (settings_of c node) now w.ring at_node wire len) refused w o)
      in_free none None e = fails reason.Full
      in_free none (Some i) e =
          let f = found_at is_free w.ring.slots i e in
          greeted at_node wire len length_is i f.within (free_is (slot_at i w.ring.slots) f.passes) none refused

      go : (o : Option ℕ) → slot_where (of_node bars_link at_node) w.ring.slots ≡ o →
          Going c m x now (greet_unless (greeting_link (settings_of c node) now w.ring at_node wire len) refused w o)
      go None e = in_free e (slot_where is_free w.ring.slots) refl
      go (Some i) e = fails reason.Linked

  pub greet_plainly_going : (at_node : ℕ) → Going c m x now (greet_plainly (settings_of c node) now at_node w)
  greet_plainly_going at_node = greet_going at_node 1 c.lease (λ h. refl) (λ r u. u) (λ r. g)

  -- a Hello is accepted, where no link is with the instance, and none greets its node
  accepted : (k : Link) (from : Who) (theirs wire proposed len : ℕ) → k ≡ offered_link (settings_of c node) now w.ring from theirs wire len →
      (wire == 2 ≡ false → len ≡ c.lease) → IsMember (Hello (end_of from theirs) x.actor proposed) v.sent → len ≤ proposed → same_who x from ≡ false →
      ((i : ℕ) (l : Link) → slot_at i w.ring.slots ≡ Some l → l.peer ≡ from → ⊥) →
      ((i : ℕ) (l : Link) → slot_at i w.ring.slots ≡ Some l → is_hello l.state ≡ true → l.peer.actor ≡ from.actor → ⊥) →
      Going c m x now (hello_accepted k w)
  accepted k from theirs wire proposed len k_is length_is came shorter other none none_greets =
      subst (λ (k : Link). Going c m x now (hello_accepted k w)) (sym k_is) (in_free (slot_where is_free w.ring.slots) refl)
    where
      shown : done (machine_of c) v x (OfferBegun (end_of from theirs) proposed len) ≡
          stepped v (end_of x w.ring.next_session) (w.ring.next_session + 1)
          (outcome (slot_of (offered_link (settings_of c node) now w.ring from theirs wire len)) tok
          (Offer (end_of x w.ring.next_session) (end_of from theirs) len ∷ []) v.place)
      shown = let read = g.reading in let next = g.shows.next in let token = g.shows.token in
          λ j. stepped v (end_of x (next j)) (next j + 1) (offer_begun (end_of x (next j)) (read j) (token j) v.place (end_of from theirs) len)

      may : May (machine_of c) v x (OfferBegun (end_of from theirs) proposed len)
      may = (came, shorter, other, alone_of sound g from (λ i l at a. none i l at))

      in_free : (o : Option ℕ) → slot_where is_free w.ring.slots ≡ o →
          Going c m x now (accept_free (offered_link (settings_of c node) now w.ring from theirs wire len) w o)
      in_free None e = g
      in_free (Some i) e =
          let f = found_at is_free w.ring.slots i e in
          begins sound g i f.within (free_is (slot_at i w.ring.slots) f.passes) (offered_link (settings_of c node) now w.ring from theirs wire len)
          (Offer (end_of x w.ring.next_session) (end_of from theirs) len ∷ [])
          (subst (λ (z : World). DeedsDone (machine_of c) v x z) shown (deed_done sound g.inv x g.live (OfferBegun (end_of from theirs) proposed len) may))
          refl (record { held = refl; part = refl; length = λ p q. length_is q; tally = λ h. absurd (cc (h)); rounds = λ h. absurd (cc (h)) })
          (record { greets = λ h j l at b e. absurd (cc (h)); bars = λ h j l at b e. absurd (none_greets j l at b e) }) refl _
          (λ h. all_said_both c.lease _ x w.sent _ h (
            offer_said c.lease (Offer (end_of x w.ring.next_session) (end_of from theirs) len ∷ v.sent) x
                (offered_link (settings_of c node) now w.ring from theirs wire len) (wire == 2) length_is (inl refl),
            tt,
          ))

module _ {c : FabricConfig} {m : World} {x : Who} {now : ℕ} {w : Work} (sound : IsSound (machine_of c)) (node : ℕ) (g : Going c m x now w) where
  -- a Hello that x gave up
  pub hello_dropped : (i : ℕ) (l : Link) → slot_at i w.ring.slots ≡ Some l → l.state ≡ state.Hello → Going c m x now (drop_slot i w)
  hello_dropped i l at is =
      drops sound g i l at HelloDropped (ap state_of is) (record (slot_of l) { state = Abandoned }) [] refl refl
      (λ h. cc (h, is)) (λ h. absurd (cc (h))) w.ring.phase w.sent w.told (nothing_besides sound g [])

  -- an Offer is said again
  pub offer_again_going : (i : ℕ) (l : Link) → slot_at i w.ring.slots ≡ Some l → l.state ≡ state.Offered →
      Going c m x now (send l.peer (offer_body l) w)
  offer_again_going i l at is =
      says sound g i l at OfferAgain (ap state_of is) (Offer (end_of x l.mine) (end_of l.peer l.yours) l.len ∷ []) refl
      ((l.peer, offer_body l) ∷ []) (
        offer_said c.lease (Offer (end_of x l.mine) (end_of l.peer l.yours) l.len ∷ g.after.sent) x l (l.wire == 2)
            (λ q. (g.shows.slots.sound i l at).length (ap is_proposing is) q) (inl refl),
        tt,
      )

  pub hello_going : (from : Who) (theirs wire proposed len : ℕ) → (wire == 2 ≡ false → len ≡ c.lease) →
      IsMember (Hello (end_of from theirs) x.actor proposed) m.sent → len ≤ proposed → same_who x from ≡ false →
      Going c m x now (hello_received (settings_of c node) now from theirs wire len w)
  hello_going from theirs wire proposed len length_is came shorter other =
      subst (λ (u : Work). Going c m x now u) (sym (hello_received-is (settings_of c node) now from theirs wire len w))
      (by_instance (slot_where (of_instance from) w.ring.slots) refl)
    where
      again : (i : ℕ) (l : Link) → slot_at i w.ring.slots ≡ Some l → (s : LinkState) → l.state ≡ s → Going c m x now (offer_again theirs l s w)
      again i l at state.Offered is = same (l.yours == theirs)
        where
          same : (q : Bool) → Going c m x now (offer_same l w q)
          same true = offer_again_going i l at is
          same false = g
      again i l at s is = g

      repeated : (i : ℕ) (o : Option Link) → slot_at i w.ring.slots ≡ o → Going c m x now (hello_repeated theirs o w)
      repeated i None at = g
      repeated i (Some l) at = again i l at l.state refl

      no_instance : slot_where (of_instance from) w.ring.slots ≡ None → (i : ℕ) (l : Link) → slot_at i w.ring.slots ≡ Some l → l.peer ≡ from → ⊥
      no_instance none i l at e =
          both_ways _ (none_at (of_instance from) w.ring.slots none i l at) (subst (λ (z : Who). same_who z from ≡ true) (sym e) (same_who-refl from))

      crossed : slot_where (of_instance from) w.ring.slots ≡ None → (i : ℕ) (l : Link) → slot_at i w.ring.slots ≡ Some l → l.state ≡ state.Hello →
          l.peer.actor ≡ from.actor → (q : Bool) →
          Going c m x now (hello_crossed (offered_link (settings_of c node) now w.ring from theirs wire len) i w q)
      crossed none i l at is actor true = g
      crossed none i l at is actor false =
          let dropped = hello_dropped i l at is in
          accepted sound node dropped (offered_link (settings_of c node) now w.ring from theirs wire len) from theirs wire proposed len refl length_is
          (dropped.beside.sent _ came) shorter other
          (λ j k. set_cases (λ j o. o ≡ Some k → k.peer ≡ from → ⊥) w.ring.slots i None j (used_within w.ring.slots i l at) (λ a e. cc (a))
          (λ n a e. no_instance none j k a e))
          (λ j k. set_cases (λ j o. o ≡ Some k → is_hello k.state ≡ true → k.peer.actor ≡ from.actor → ⊥) w.ring.slots i None j
          (used_within w.ring.slots i l at) (λ a b e. cc (a))
          (λ n a b e. n (g.shows.slots.alone i j l k at a (ap is_hello is) (hello_bars k.state b) (actor ∙ sym e))))

      of_node_found : slot_where (of_instance from) w.ring.slots ≡ None → (o : Option ℕ) → slot_where (of_node is_hello from.actor) w.ring.slots ≡ o →
          Going c m x now (hello_of_node (offered_link (settings_of c node) now w.ring from theirs wire len) w o)
      of_node_found none None e =
          accepted sound node g (offered_link (settings_of c node) now w.ring from theirs wire len) from theirs wire proposed len refl length_is (g.beside.sent _ came) shorter other
          (no_instance none)
          (λ i l at b a. both_ways _ (none_at (of_node is_hello from.actor) w.ring.slots e i l at)
          (and_from (l.peer.actor == from.actor) (is_hello l.state) (eq-eqb l.peer.actor from.actor a) b))
      of_node_found none (Some i) e = let f = found_at (of_node is_hello from.actor) w.ring.slots i e in there (slot_at i w.ring.slots) refl f.passes
        where
          there : (o : Option Link) → slot_at i w.ring.slots ≡ o → of_node is_hello from.actor o ≡ true →
              Going c m x now (hello_crossed (offered_link (settings_of c node) now w.ring from theirs wire len) i w (nat_lt w.ring.me.actor from.actor))
          there None at t = absurd (cc (t))
          there (Some l) at t =
              let a = and_parts (l.peer.actor == from.actor) (is_hello l.state) t in
              crossed none i l at (hello_is l.state a.1) (eqb-true l.peer.actor from.actor a.0) (nat_lt w.ring.me.actor from.actor)

      by_instance : (o : Option ℕ) → slot_where (of_instance from) w.ring.slots ≡ o →
          Going c m x now (hello_of_instance (offered_link (settings_of c node) now w.ring from theirs wire len) w o)
      by_instance None e = of_node_found e (slot_where (of_node is_hello from.actor) w.ring.slots) refl
      by_instance (Some i) e = repeated i (slot_at i w.ring.slots) refl
