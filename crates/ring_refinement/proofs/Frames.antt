-- The row of each frame that passes.
use Rattle.std.proofs.Common.{◌≡◌, ℕ, ◌-◌, ◌==◌, ◌&&◌, ◌||◌, nat_le, nat_lt, min, not, Bool, true, false, List, [], ◌∷◌, length, refl, sym, ap, ◌∙◌, subst, inl, inr, arith}
use Rattle.std.proofs.lemmas.Bool.{eqb-true, eq-eqb, ltb-true, leb-true, and_parts, not-true, both_ways}
use Rattle.ring_points.specs.declared.who.Who.{Who}
use Rattle.ring_points.specs.Whos.{same_who, arbiter_actor}
use Rattle.fabric_terms.specs.declared.config.FabricConfig.{FabricConfig}
use Rattle.fabric_terms.specs.declared.message.Body.{Body}
use Rattle.fabric_terms.specs.declared.message.Body.TheVariants as body
use Rattle.fabric_terms.specs.declared.message.Message.{Message}
use Rattle.ring_route.specs.Routes.{heard, is_among}
use Rattle.ring_rules.specs.Deeds.{counted}
use Rattle.ring_rules.specs.Frames.{is_for, is_between_nodes, is_arbiters_answer, is_node, may_send, passes, heard_if, sender_heard, frame_row}
use Rattle.ring_rules.specs.Rings.{Work, settings_of}
use Rattle.ring_rules.specs.Steps.{frame_if}
use Rattle.ring_rules.proofs.Rows.{frame_received-is}
use Rattle.fabric_lemmas.specs.Members.{IsMember}
use Rattle.ring_machine.specs.Ends.{End, end_of}
use Rattle.ring_machine.specs.Slots.{is_used}
use Rattle.ring_machine.specs.Frames.{Hello, Offer, Take, Renew, RenewAck, Transfer, Gone, Ruled}
use Rattle.ring_machine.specs.World.{World, slot}
use Rattle.ring_machine.specs.Events.{IsSound}
use Rattle.ring_machine.specs.Sessions.{BothTied}
use Rattle.ring_machine.specs.SoundFrames.{SoundOffer, SoundRenew, SoundAck, SoundTransfer, SoundGone}
use Rattle.ring_points.proofs.Whos.{same_who_from, same_who-refl}
use Rattle.ring_refinement.specs.Images.{machine_of, points_of, Posted}
use Rattle.ring_refinement.proofs.Going.{Going}
use Rattle.ring_refinement.proofs.Leaving.{Went, on, counted_went}
use Rattle.ring_refinement.proofs.Saying.{tied_used}
use Rattle.ring_refinement.proofs.Unknown.{started}
use Rattle.ring_refinement.proofs.Greetings.{hello_going}
use Rattle.ring_refinement.proofs.Offers.{offer_going, take_going}
use Rattle.ring_refinement.proofs.Renewals.{renew_received_going, ack_received_going}
use Rattle.ring_refinement.proofs.Flights.{transfer_going, gone_going}
use Rattle.ring_refinement.proofs.Quiet.{knows, seek_received_going, found_received_going}
use Rattle.ring_refinement.proofs.Rulings.{ruling_went}
use Rattle.ring_refinement.proofs.Claims.{kept_received_going}
use Rattle.ring_points.specs.declared.interval.Interval.{Interval}
use Rattle.ring_rules.specs.Flights.{transfer_received, gone_received}
use Rattle.ring_rules.specs.Handshakes.{offer_received, take_received}
use Rattle.ring_rules.specs.Renewals.{renew_received, ack_received}
use Rattle.ring_refinement.proofs.Ranges.{Rises}

-- who is not among them is no member
not_among : (y : Who) (zs : List Who) → is_among y zs ≡ false → IsMember y zs → ⊥
not_among y [] h m = m
not_among y (z ∷ zs) h (inl e) = both_ways _ h (first_passes (same_who y z) (is_among y zs) (subst (λ (z : Who). same_who y z ≡ true) e (same_who-refl y)))
  where
    first_passes : (a b : Bool) → a ≡ true → a || b ≡ true
    first_passes true b e = refl
    first_passes false b e = absurd (cc (e))
not_among y (z ∷ zs) h (inr m) = not_among y zs (rest_fails (same_who y z) (is_among y zs) h) m
  where
    rest_fails : (a b : Bool) → a || b ≡ false → b ≡ false
    rest_fails true b e = absurd (cc (e))
    rest_fails false b e = e

module _ {c : FabricConfig} {m : World} {x : Who} {now : ℕ} {w : Work} (sound : IsSound (machine_of c)) (node : ℕ) (g : Going c m x now w) where
  -- a frame for a slot that is used is for x itself
  for_one : (to : Who) (n : ℕ) → is_used (slot g.after (end_of to n)).state ≡ true → is_for x to ≡ true → to ≡ x
  for_one to n used h =
      let a = and_parts (to.actor == x.actor) (to.instance == 0 || to.instance == x.instance) h in
      let actor : to.actor ≡ x.actor = eqb-true to.actor x.actor a.0 in
      let one : to.instance ≡ x.instance = by (to.instance == 0) refl a.1 in
      λ j. record { actor = actor j; instance = one j }
    where
      by : (b : Bool) → to.instance == 0 ≡ b → b || to.instance == x.instance ≡ true → to.instance ≡ x.instance
      by true e h = absurd (started sound g to n used (eqb-true to.instance 0 e))
      by false e h = eqb-true to.instance x.instance h

  -- a ruling is for x itself
  for_named : (to : Who) → (to.instance ≡ 0 → ⊥) → is_for x to ≡ true → to ≡ x
  for_named to n h =
      let a = and_parts (to.actor == x.actor) (to.instance == 0 || to.instance == x.instance) h in
      let actor : to.actor ≡ x.actor = eqb-true to.actor x.actor a.0 in
      let one : to.instance ≡ x.instance = by (to.instance == 0) refl a.1 in
      λ j. record { actor = actor j; instance = one j }
    where
      by : (b : Bool) → to.instance == 0 ≡ b → b || to.instance == x.instance ≡ true → to.instance ≡ x.instance
      by true e h = absurd (n (eqb-true to.instance 0 e))
      by false e h = eqb-true to.instance x.instance h

  for_node : (to : Who) → is_for x to ≡ true → to.actor ≡ x.actor
  for_node to h = eqb-true to.actor x.actor (and_parts (to.actor == x.actor) (to.instance == 0 || to.instance == x.instance) h).0

  -- a frame of another node
  another : (from : Who) (b : Body) → is_between_nodes b ≡ true → is_arbiters_answer b ≡ false →
      may_send (settings_of c node) w.ring from.actor (is_between_nodes b) (is_arbiters_answer b) ≡ true → same_who x from ≡ false
  another from b between answer may = same_who_from x from (λ e. both_ways _ (not-true _ other) (eq-eqb from.actor w.ring.me.actor (sym (ap (λ (y : Who). y.actor) (g.shows.me ∙ e)))))
    where
      plain : may_send (settings_of c node) w.ring from.actor true false ≡ true
      plain = subst (λ (q : Bool). may_send (settings_of c node) w.ring from.actor q false ≡ true) between
          (subst (λ (q : Bool). may_send (settings_of c node) w.ring from.actor (is_between_nodes b) q ≡ true) answer may)

      other : not (from.actor == w.ring.me.actor) ≡ true
      other = (and_parts (is_node w.ring from.actor) (not (from.actor == w.ring.me.actor)) plain).1

  -- the frames of each session
  offers : (from to : Who) (theirs own len : ℕ) → (IsMember from w.ring.accused → ⊥) → is_for x to ≡ true → IsMember (Offer (end_of from theirs) (end_of to own) len) m.sent →
      Going c m x now (offer_received now from theirs own len w)
  offers from to theirs own len trusted for_x came =
      offer_going sound g from theirs own len trusted
      (subst (λ (y : Who). IsMember (Offer (end_of from theirs) (end_of y own) len) m.sent) (for_one to own used for_x) came)
    where
      offer : SoundOffer g.after (end_of from theirs) (end_of to own) len
      offer = g.inv.frames _ (g.beside.sent _ came)

      used : is_used (slot g.after (end_of to own)).state ≡ true
      used = subst (λ (e : End). is_used (slot g.after e).state ≡ true) offer.tied.far ((g.inv.slots (end_of from theirs)).far_used offer.tied.engaged)

  takes : (from to : Who) (theirs own : ℕ) → (IsMember from w.ring.accused → ⊥) → is_for x to ≡ true → IsMember (Take (end_of from theirs) (end_of to own)) m.sent →
      Going c m x now (take_received now from theirs own w)
  takes from to theirs own trusted for_x came =
      take_going sound g from theirs own trusted (subst (λ (y : Who). IsMember (Take (end_of from theirs) (end_of y own)) m.sent) (for_one to own used for_x) came)
    where
      tied : BothTied g.after (end_of from theirs) (end_of to own)
      tied = g.inv.frames _ (g.beside.sent _ came)

      used : is_used (slot g.after (end_of to own)).state ≡ true
      used = tied_used g.after (end_of to own) (end_of from theirs) tied.theirs

  renews : (from to : Who) (theirs own stamp version got : ℕ) (want : Bool) (ranges : List Interval) → (IsMember from w.ring.accused → ⊥) →
      is_for x to ≡ true → Rises ranges → IsMember (Renew (end_of from theirs) (end_of to own) stamp version got (points_of ranges)) m.sent →
      Going c m x now (renew_received from theirs own stamp version got want ranges w)
  renews from to theirs own stamp version got want ranges trusted for_x rises came =
      renew_received_going sound g from theirs own stamp version got want ranges trusted rises
      (subst (λ (y : Who). IsMember (Renew (end_of from theirs) (end_of y own) stamp version got (points_of ranges)) m.sent) (for_one to own used for_x) came)
    where
      renew : SoundRenew g.after (end_of from theirs) (end_of to own) stamp version got
      renew = g.inv.frames _ (g.beside.sent _ came)

      used : is_used (slot g.after (end_of to own)).state ≡ true
      used = tied_used g.after (end_of to own) (end_of from theirs) renew.tied.theirs

  acks : (from to : Who) (theirs own stamp version : ℕ) → is_for x to ≡ true → IsMember (RenewAck (end_of from theirs) (end_of to own) stamp version) m.sent →
      Going c m x now (ack_received from theirs own stamp version w)
  acks from to theirs own stamp version for_x came =
      ack_received_going sound g from theirs own stamp version
      (subst (λ (y : Who). IsMember (RenewAck (end_of from theirs) (end_of y own) stamp version) m.sent) (for_one to own used for_x) came)
    where
      ack : SoundAck g.after (end_of from theirs) (end_of to own) stamp version
      ack = g.inv.frames _ (g.beside.sent _ came)

      used : is_used (slot g.after (end_of to own)).state ≡ true
      used = tied_used g.after (end_of to own) (end_of from theirs) ack.tied.theirs

  transfers : (from to : Who) (theirs own number : ℕ) (part : List Interval) → (IsMember from w.ring.accused → ⊥) →
      is_for x to ≡ true → Rises part → IsMember (Transfer (end_of from theirs) (end_of to own) number (points_of part)) m.sent →
      Going c m x now (transfer_received from theirs own number part w)
  transfers from to theirs own number part trusted for_x rises came =
      transfer_going sound g from theirs own number part trusted rises
      (subst (λ (y : Who). IsMember (Transfer (end_of from theirs) (end_of y own) number (points_of part)) m.sent) (for_one to own used for_x) came)
    where
      transfer : SoundTransfer (machine_of c) g.after (end_of from theirs) (end_of to own) number (points_of part)
      transfer = g.inv.frames _ (g.beside.sent _ came)

      used : is_used (slot g.after (end_of to own)).state ≡ true
      used = tied_used g.after (end_of to own) (end_of from theirs) transfer.tied.theirs

  gones : (from to : Who) (theirs own got : ℕ) (bound : Bool) → (IsMember from w.ring.accused → ⊥) → is_for x to ≡ true →
      IsMember (Gone (end_of from theirs) (end_of to own) got bound) m.sent → Going c m x now (gone_received from theirs own got bound w)
  gones from to theirs own got bound trusted for_x came =
      gone_going sound g from theirs own got bound trusted
      (subst (λ (y : Who). IsMember (Gone (end_of from theirs) (end_of y own) got bound) m.sent) (for_one to own gone.used for_x) came)
    where
      gone : SoundGone g.after (end_of from theirs) (end_of to own) got
      gone = g.inv.frames _ (g.beside.sent _ came)

  -- the row of a frame that passes
  frame_row_went : (from to : Who) (b : Body) → Posted c.lease m.sent from to b → is_for x to ≡ true → (IsMember from w.ring.accused → ⊥) →
      may_send (settings_of c node) w.ring from.actor (is_between_nodes b) (is_arbiters_answer b) ≡ true → Went c m x now (frame_row (settings_of c node) now from b w)
  frame_row_went from to (body.Hello mine) p for_x trusted may =
      on (hello_going sound node g from mine 1 c.lease c.lease (λ h. refl)
      (subst (λ (n : ℕ). IsMember (Hello (end_of from mine) n c.lease) m.sent) (for_node to for_x) p.image) (omega arith) (another from (body.Hello mine) refl refl may))
  frame_row_went from to (body.HelloFor mine length) p for_x trusted may =
      on (hello_going sound node g from mine 2 length (min length (settings_of c node).longest) (λ h. absurd (cc (h)))
      (subst (λ (n : ℕ). IsMember (Hello (end_of from mine) n length) m.sent) (for_node to for_x) p.image) (omega arith) (another from (body.HelloFor mine length) refl refl may))
  frame_row_went from to (body.Offer mine yours) p for_x trusted may = on (offers from to mine yours c.lease trusted for_x p.image)
  frame_row_went from to (body.OfferFor mine yours length) p for_x trusted may = on (offers from to mine yours length trusted for_x p.image)
  frame_row_went from to (body.Take mine yours) p for_x trusted may = on (takes from to mine yours trusted for_x p.image)
  frame_row_went from to (body.Renew mine yours stamp version got want ranges) p for_x trusted may =
      on (renews from to mine yours stamp version got want ranges trusted for_x p.rises p.image)
  frame_row_went from to (body.RenewAck mine yours stamp version) p for_x trusted may = on (acks from to mine yours stamp version for_x p.image)
  frame_row_went from to (body.Transfer mine yours flight ranges) p for_x trusted may = on (transfers from to mine yours flight ranges trusted for_x p.rises p.image)
  frame_row_went from to (body.Gone mine yours got bound) p for_x trusted may = on (gones from to mine yours got bound trusted for_x p.image)
  frame_row_went from to (body.Seek origin key hops) p for_x trusted may = on (seek_received_going sound g origin key hops)
  frame_row_went from to (body.Found key holder) p for_x trusted may = on (found_received_going sound g node key holder)
  frame_row_went from to (body.Ruled victim ruling) p for_x trusted may =
      let a = and_parts (nat_lt (arbiter_actor 0) from.actor) (nat_le from.actor (arbiter_actor (length c.arbiters))) may in
      ruling_went sound node g from victim ruling (ltb-true (arbiter_actor 0) from.actor a.0) (leb-true from.actor (arbiter_actor (length c.arbiters)) a.1)
      (subst (λ (y : Who). IsMember (Ruled (from.actor - arbiter_actor 0) y victim ruling) m.sent) (for_named to (p.to_one refl) for_x) p.image)
  frame_row_went from to (body.Kept victim round claimer) p for_x trusted may =
      let a = and_parts (nat_lt (arbiter_actor 0) from.actor) (nat_le from.actor (arbiter_actor (length c.arbiters))) may in
      on (kept_received_going sound node g from victim round claimer (ltb-true (arbiter_actor 0) from.actor a.0)
      (leb-true from.actor (arbiter_actor (length c.arbiters)) a.1) p.image)
  frame_row_went from to b p for_x trusted may = on g

module _ {c : FabricConfig} {m : World} {x : Who} {now : ℕ} {w : Work} (sound : IsSound (machine_of c)) (node : ℕ) (g : Going c m x now w) where
  -- a frame, where it passes
  pub frame_went : (f : Message) → Posted c.lease m.sent f.from f.to f.body → (q : Bool) → passes (settings_of c node) w.ring f ≡ q →
      Went c m x now (frame_if (settings_of c node) now f w q)
  frame_went f p false e = on g
  frame_went f p true e =
      subst (λ (u : Work). Went c m x now u) (sym (frame_received-is (settings_of c node) now f.from f.body (sender_heard now f.from w)))
      (by (is_node w.ring f.from.actor && not (f.from.actor == w.ring.me.actor)))
    where
      two : (is_for w.ring.me f.to && not (is_among f.from w.ring.accused) ≡ true) ×
          (may_send (settings_of c node) w.ring f.from.actor (is_between_nodes f.body) (is_arbiters_answer f.body) ≡ true)
      two = and_parts (is_for w.ring.me f.to && not (is_among f.from w.ring.accused))
          (may_send (settings_of c node) w.ring f.from.actor (is_between_nodes f.body) (is_arbiters_answer f.body)) e

      one : (is_for w.ring.me f.to ≡ true) × (not (is_among f.from w.ring.accused) ≡ true)
      one = and_parts (is_for w.ring.me f.to) (not (is_among f.from w.ring.accused)) two.0

      for_x : is_for x f.to ≡ true
      for_x = subst (λ (y : Who). is_for y f.to ≡ true) g.shows.me one.0

      trusted : IsMember f.from w.ring.accused → ⊥
      trusted = not_among f.from w.ring.accused (not-true (is_among f.from w.ring.accused) one.1)

      by : (q : Bool) → Went c m x now (counted (heard_if now f.from w q) (frame_row (settings_of c node) now f.from f.body (heard_if now f.from w q)))
      by false = counted_went sound g (frame_row_went sound node g f.from f.to f.body p for_x trusted two.1)
      by true =
          let h = knows sound g (heard w.ring.routes f.from now) w.ring.target in
          counted_went sound h (frame_row_went sound node h f.from f.to f.body p for_x trusted two.1)
